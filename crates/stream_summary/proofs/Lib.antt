pub mod Counting
pub mod Levels
pub mod Longest
pub mod Noting
