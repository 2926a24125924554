-- How far a file goes (section 2.4).
use Rattle.std.specs.Prelude.{◌≡◌, ℕ, suc, ◌*◌, ◌≤◌, Some, IsTrue}
use Rattle.gfs_types.specs.declared.config.Config.{Config}
use Rattle.chunk_table.specs.ChunkTable.{handles_of}
use Rattle.gfs_types.specs.Counters.{counter_limit}
use Rattle.protocol.specs.Tables.{element_at}
use Rattle.protocol.specs.World.{WorldState, IsReached}

-- While the master is up, each byte of each chunk of a file is at a place within the counters' limit.
abbrev pub FilesAreWithinPlaces : Type 0
FilesAreWithinPlaces =
    (config : Config) (servers clients : ℕ) (w : WorldState) → IsReached config servers clients w → IsTrue w.master.up
    → (file index handle : ℕ) → element_at (handles_of w.master.logged.table file) index ≡ Some handle → suc index * config.chunk ≤ counter_limit
