pub mod Text
pub mod Known
pub mod Meaning
