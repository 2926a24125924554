pub mod Records
pub mod Reading
