pub mod Blocks
pub mod Fronts
pub mod Places
pub mod Fields
pub mod Index
pub mod Formats
pub mod Stored
pub mod Rows
