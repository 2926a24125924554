pub mod Concerning
pub mod Locked
pub mod Due
pub mod CallLocks
pub mod Clashes
pub mod Bounds
pub mod Sources
pub mod Places
