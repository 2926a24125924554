mod Shared
mod Turned
pub mod Behind
pub mod FirstNode
pub mod Levels
pub mod Changed
pub mod LabelCuts
pub mod Joins
pub mod LabelOutcomes
pub mod Parted
pub mod Removals
