pub mod Copying
pub mod Errors
pub mod Parts
