pub mod Late
pub mod Drops
pub mod Cloned
