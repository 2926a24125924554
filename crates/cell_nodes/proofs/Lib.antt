pub mod Sent
pub mod Settings
pub mod Standing
pub mod NewLocks
pub mod Led
