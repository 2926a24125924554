pub mod Coding
pub mod Concerned
pub mod Faults
pub mod CallLocks
pub mod Due
pub mod Places
