pub mod Steps
pub mod Ranks
pub mod Records
