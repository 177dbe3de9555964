pub mod Steps
pub mod Reading
pub mod Places
pub mod Hex
pub mod Base64
pub mod Blanks
pub mod Offsets
