pub mod Buffered
pub mod Reading
pub mod Writing
