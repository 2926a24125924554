pub mod Listed
pub mod Handles
pub mod Trial
pub mod Replays
pub mod Taken
