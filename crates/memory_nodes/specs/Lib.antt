pub mod MasterSlots
pub mod Starts
