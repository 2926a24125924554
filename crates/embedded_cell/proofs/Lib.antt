pub mod Traces
pub mod Later
pub mod Shown
pub mod Records
