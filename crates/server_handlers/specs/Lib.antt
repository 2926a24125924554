pub mod Standing
pub mod Held
pub mod Reported
pub mod Doing
pub mod Pushing
