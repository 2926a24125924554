pub mod Servers
pub mod Clones
pub mod Whole
pub mod Doubts
