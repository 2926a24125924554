pub mod NewNodes
pub mod Nodes
