pub mod Unread
pub mod Items
pub mod Borrowed
pub mod Iteration
pub mod Segments
pub mod Errors
pub mod Limits
