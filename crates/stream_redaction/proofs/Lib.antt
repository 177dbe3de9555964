pub mod Accepted
pub mod Kept
pub mod Redacting
pub mod Splitting
