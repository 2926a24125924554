pub mod Changes
pub mod Plans
pub mod Watched
pub mod Granted
pub mod Sizes
pub mod Logging
pub mod Reports
