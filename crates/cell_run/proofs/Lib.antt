pub mod Settings
pub mod NewSeats
pub mod Parking
pub mod Fresh
pub mod Going
