pub mod Answering
pub mod Finding
