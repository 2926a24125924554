pub mod Choosing
pub mod Handles
pub mod Among
pub mod Wholeness
pub mod Doubting
