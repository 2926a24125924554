pub mod Cells
pub mod Steps
pub mod Shown
pub mod Lines
pub mod Scripts
pub mod Network
pub mod Answered
