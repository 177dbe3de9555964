pub mod FirstName
pub mod Halving
pub mod NameSteps
pub mod FoundComments
pub mod LastValues
pub mod Readings
pub mod SameNames
