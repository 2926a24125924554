pub mod Journal
pub mod Laws
pub mod Rebased
pub mod CutWorlds
pub mod Whole
pub mod Journals
