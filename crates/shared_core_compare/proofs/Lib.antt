pub mod Fields
pub mod Lines
pub mod Elements
pub mod Compared
