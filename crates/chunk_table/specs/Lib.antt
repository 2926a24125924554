pub mod ChunkTable
pub mod Owners
pub mod Refusals
