pub mod NamesAt
pub mod SortedNames
pub mod Members
pub mod Values
pub mod PlainScalars
pub mod Meanings
pub mod CanonicalBytes
