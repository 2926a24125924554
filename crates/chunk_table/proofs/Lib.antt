pub mod Lookups
pub mod Sums
pub mod Counts
pub mod FileLists
pub mod Shaped
pub mod Sound
pub mod Owning
