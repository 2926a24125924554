pub mod Faults
pub mod LockCounts
pub mod Locks
