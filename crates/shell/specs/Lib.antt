pub mod Worlds
pub mod Once
pub mod Cells
pub mod Explained
pub mod Scripts
