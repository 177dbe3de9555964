pub mod Checking
pub mod Fitting
