pub mod Names
pub mod Fields
pub mod LoadedNames
pub mod Form
pub mod Written
pub mod Payloads
pub mod Errors
