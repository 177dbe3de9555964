pub mod Reading
pub mod Other
pub mod Lines
pub mod Dump
pub mod Canonical
pub mod Spread
pub mod Terminal
