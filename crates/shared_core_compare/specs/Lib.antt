pub mod CommandFields
pub mod CommandTable
pub mod Commands
pub mod Erasure
pub mod Differences
