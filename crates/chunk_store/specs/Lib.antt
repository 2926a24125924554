pub mod Finding
pub mod Faults
pub mod Opening
pub mod Stores
pub mod Stops
pub mod Reopening
pub mod Volumes
