pub mod Places
pub mod Rows
pub mod Found
pub mod Singles
pub mod Payloads
