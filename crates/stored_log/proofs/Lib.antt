pub mod Sizes
pub mod Causes
pub mod Keeping
pub mod Reopening
