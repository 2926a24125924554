pub mod Growth
pub mod Places
