pub mod Attempts
pub mod Appends
pub mod Outcomes
pub mod Held
pub mod Steps
