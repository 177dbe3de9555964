pub mod AwaitedIds
