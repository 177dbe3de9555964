pub mod LastNames
pub mod Steps
pub mod Read
pub mod Pushed
