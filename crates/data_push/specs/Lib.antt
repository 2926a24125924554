pub mod Buffers
pub mod NextHop
pub mod Laws
