pub mod Redaction
pub mod Replacement
pub mod Streams
