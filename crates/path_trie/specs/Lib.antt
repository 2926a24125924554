pub mod Below
pub mod Copies
pub mod Counts
pub mod Texts
pub mod Walks
