pub mod Standing
pub mod ParkedSeats
pub mod Places
pub mod Seatings
