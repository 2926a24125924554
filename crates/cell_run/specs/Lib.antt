pub mod StartFaults
pub mod Starts
pub mod Cells
pub mod SeatFaults
pub mod Parked
pub mod Resumed
pub mod EndedCells
