pub mod Types
pub mod TypeNames
pub mod Equality
pub mod Versions
