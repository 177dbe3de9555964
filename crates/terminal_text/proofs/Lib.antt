pub mod Lossy
