pub mod Faults
pub mod Coding
pub mod Follows
pub mod Refusals
pub mod Copied
