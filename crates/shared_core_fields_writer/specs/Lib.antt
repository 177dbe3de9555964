pub mod Errors
pub mod Room
pub mod Given
pub mod Walk
pub mod Written
pub mod Tables
