pub mod Known
pub mod Careful
pub mod Views
pub mod Faults
pub mod Standing
