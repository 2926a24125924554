pub mod Answered
pub mod Examples
pub mod Promises
pub mod ExplainedWorlds
pub mod Readers
