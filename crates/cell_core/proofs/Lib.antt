pub mod Traced
pub mod Cuts
pub mod Explained
pub mod Reached
pub mod CellLaws
