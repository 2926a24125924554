pub mod Listing
pub mod Checkpoints
pub mod Room
pub mod Faults
pub mod Items
pub mod Changes
pub mod Restarts
pub mod Sharing
