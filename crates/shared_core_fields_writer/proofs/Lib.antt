mod ShortRecords
mod Rooms
mod Walking
mod Stepping
mod Whole
mod Canonical
mod Bytes
mod FieldsCome
mod Tables
mod TableBack
pub mod OutAndIn
mod GivenRows
