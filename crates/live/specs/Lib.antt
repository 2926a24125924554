pub mod Playing
pub mod Live
