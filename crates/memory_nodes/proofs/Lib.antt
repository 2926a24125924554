pub mod Files
pub mod MasterSlots
pub mod NewDisks
pub mod Settings
