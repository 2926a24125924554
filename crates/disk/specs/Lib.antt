pub mod Device
pub mod Bytes
pub mod Writes
pub mod Failing
pub mod Laws
pub mod Faults
pub mod Pages
