pub mod PathsApart
pub mod Unrefused
pub mod Runs
pub mod Calls
pub mod Effects
pub mod Actions
pub mod Chunks
pub mod Unseen
pub mod Seen
pub mod Traces
pub mod Named
mod Calm
mod Changed
mod Lacking
mod Looks
mod OneName
mod Skipped
