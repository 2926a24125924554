pub mod Fields
pub mod Payloads
pub mod Kinds
pub mod Reading
pub mod Records
pub mod Sizes
