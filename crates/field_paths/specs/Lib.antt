pub mod Getting
pub mod Paths
pub mod Values
