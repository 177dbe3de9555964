pub mod Fronts
pub mod Explaining
pub mod Going
pub mod Records
pub mod Shown
