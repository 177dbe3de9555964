pub mod Futures
pub mod Notifications
pub mod Texts
pub mod Conversions
