pub mod Changed
pub mod Counts
