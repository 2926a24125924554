pub mod Fronts
pub mod Turns
pub mod Behind
pub mod Entries
pub mod Falls
pub mod Nodes
pub mod Siblings
