pub mod Entries
pub mod Allowed
pub mod Written
pub mod Payloads
pub mod Records
