pub mod Usable
pub mod StoppedStores
