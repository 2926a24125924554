pub mod Extended
mod NoAttempts
pub mod Kept
pub mod Held
pub mod Files
pub mod DropOrders
pub mod HiddenNames
pub mod Cloned
pub mod Grants
