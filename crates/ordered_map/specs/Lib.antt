pub mod BlockLending
pub mod NumberLending
pub mod Places
pub mod ForestLending
pub mod LeafLending
pub mod Lending
pub mod Rising
