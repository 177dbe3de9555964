pub mod About
pub mod Counts
pub mod Describing
pub mod Labels
pub mod Laws
pub mod Largest
pub mod Summary
