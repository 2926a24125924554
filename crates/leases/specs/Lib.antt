pub mod LeaseHeld
pub mod LeaseEnds
pub mod Laws
