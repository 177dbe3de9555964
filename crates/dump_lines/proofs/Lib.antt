pub mod Good
pub mod Tokens
pub mod ReadPayloads
