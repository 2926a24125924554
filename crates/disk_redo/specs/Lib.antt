pub mod GateMoments
pub mod Gates
pub mod Moments
pub mod Changes
pub mod Redo
pub mod Opening
