pub mod Names
mod Placing
mod Heads
pub mod Taking
pub mod Steps
pub mod Progress
pub mod HeaderWords
pub mod LineMembers
pub mod ReadBack
pub mod ItemsBack
pub mod LineTexts
pub mod LineSplits
mod ItemFaults
pub mod ItemLines
pub mod WholeDumps
pub mod KeptDumps
