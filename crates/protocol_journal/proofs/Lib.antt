pub mod Nodes
pub mod Views
pub mod Entries
pub mod Journals
pub mod SameSteps
pub mod CutWorlds
pub mod CutJournals
