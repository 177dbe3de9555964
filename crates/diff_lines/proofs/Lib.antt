pub mod Members
pub mod Painting
pub mod Parting
pub mod Parts
pub mod Places
pub mod PlainLines
pub mod Reporting
