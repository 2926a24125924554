pub mod Stepping
pub mod Standing
pub mod Anew
pub mod Placing
pub mod GoingSeats
