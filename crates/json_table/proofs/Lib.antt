pub mod Spelled
mod Lengths
mod Linked
mod Seen
mod Turns
mod Closing
pub mod Tails
pub mod Decimals
pub mod Placing
