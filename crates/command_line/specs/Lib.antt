pub mod Errors
pub mod MaxMessage
pub mod Pipe
pub mod Protocol
pub mod Colors
pub mod Input
pub mod Decoding
pub mod Parsing
