pub mod Players
pub mod Playing
pub mod Running
pub mod Telling
