pub mod Doing
pub mod Attempts
pub mod Calls
pub mod Takes
pub mod Ticks
