pub mod Painting
pub mod Texts
