pub mod Copies
pub mod CopyPlans
