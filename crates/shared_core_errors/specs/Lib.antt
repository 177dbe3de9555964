pub mod Mismatch
pub mod Closed
pub mod Awaited
pub mod Uncompleted
pub mod Typed
