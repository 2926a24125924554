pub mod Trials
pub mod Removed
pub mod Ends
pub mod SharedFiles
pub mod Extended
