pub mod Appending
pub mod Joining
