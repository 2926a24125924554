-- Laws of chunks that several files share, in every lawful list of events, restarts, losses and repeats included, that public functions of this crate state.
use Rattle.std.specs.Prelude.{◌≡◌, ℕ, ◌≤◌, Some, None, IsTrue}
use Rattle.std.specs.FinMap as table
use Rattle.gfs_types.specs.declared.config.Config.{Config}
use Rattle.chunk_table.specs.ChunkTable.{ChunkRow, chunk_of}
use Rattle.protocol.specs.Logged.{replayed}
use Rattle.protocol.specs.World.{WorldState, IsReached}
use Rattle.laws_base.specs.Versions.{AreLeasesOver}

-- Where clocks are kept, a shared chunk of a master that is up has no version attempt, and each of its leases is over (section 3.4).
abbrev pub SharedChunksHaveNoLease : Type 0
SharedChunksHaveNoLease =
    (config : Config) (servers clients : ℕ) (w : WorldState) → IsReached config servers clients w → IsTrue w.observer.are_clocks_kept → IsTrue w.master.up
    → (handle : ℕ) (row : ChunkRow) → chunk_of w.master.logged.table handle ≡ Some row → 2 ≤ row.references
    → (table.get w.master.attempts handle ≡ None) × AreLeasesOver w handle

-- In the log too, also of a master that is down, each of its leases is over (section 3.4).
abbrev pub SharedChunksInTheLogHaveNoLease : Type 0
SharedChunksInTheLogHaveNoLease =
    (config : Config) (servers clients : ℕ) (w : WorldState) → IsReached config servers clients w → IsTrue w.observer.are_clocks_kept
    → (handle : ℕ) (row : ChunkRow) → chunk_of (replayed w.master.disk).table handle ≡ Some row → 2 ≤ row.references → AreLeasesOver w handle
