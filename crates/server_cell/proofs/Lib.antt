pub mod DiskServers
pub mod Known
pub mod Numbering
pub mod Rotting
pub mod Settings
pub mod Slots
pub mod Steps
