mod Bytes
mod Counts
pub mod WholeLines
