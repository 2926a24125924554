pub mod Askers
pub mod VersionPlaces
pub mod Tests
pub mod Copying
pub mod Own
