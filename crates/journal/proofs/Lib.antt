pub mod SetsMade
