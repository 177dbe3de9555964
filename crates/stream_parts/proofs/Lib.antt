pub mod Copies
pub mod Counting
pub mod Kept
pub mod Locating
