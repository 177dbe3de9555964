pub mod AwaitedLists
pub mod Flattening
pub mod Versions
