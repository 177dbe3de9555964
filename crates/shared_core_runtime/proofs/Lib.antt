pub mod AwaitedLists
pub mod FlattenedFits
