pub mod Drops
pub mod Expiry
