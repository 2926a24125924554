pub mod Served
pub mod Messages
pub mod Printing
pub mod Outcomes
