pub mod Areas
pub mod Changing
pub mod Faults
pub mod Mutations
pub mod Reading
pub mod Images
pub mod Edging
pub mod Writing
