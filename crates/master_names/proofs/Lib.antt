pub mod Sources
pub mod LeasedChunks
pub mod Parts
pub mod Snapshots
pub mod Refused
