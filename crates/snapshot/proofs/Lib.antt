pub mod Sets
pub mod Shared
