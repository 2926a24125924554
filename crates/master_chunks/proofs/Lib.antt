pub mod Servers
pub mod Ranks
pub mod Issues
pub mod Copies
pub mod Handles
pub mod Owned
pub mod Listed
