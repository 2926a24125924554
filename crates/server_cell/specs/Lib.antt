pub mod Ends
pub mod Inputs
pub mod Kinds
pub mod Known
pub mod Rots
pub mod Settings
pub mod Slots
