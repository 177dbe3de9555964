pub mod Listing
pub mod Options
pub mod Run
