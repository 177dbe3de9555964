pub mod Explained
pub mod Explanation
pub mod Items
pub mod Lines
pub mod Reasons
pub mod State
pub mod Texts
