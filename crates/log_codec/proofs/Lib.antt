pub mod Loop
pub mod Texts
pub mod Fields
pub mod Lists
pub mod Refusals
pub mod Records
pub mod Lengths
