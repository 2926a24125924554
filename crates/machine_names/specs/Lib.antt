pub mod SnapshotLocks
pub mod NameRuns
pub mod NameProjections
pub mod UnseenRuns
pub mod NameTraces
pub mod NamedFiles
pub mod FalseTraces
