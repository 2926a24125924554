-- The law of every lawful list of events on chunks of which nothing was granted, that a public function of this crate states.
use Rattle.std.specs.Prelude.{◌≡◌, ℕ, [], Some, None, IsTrue}
use Rattle.std.specs.FinMap as table
use Rattle.gfs_types.specs.declared.config.Config.{Config}
use Rattle.chunk_table.specs.ChunkTable.{ChunkRow, chunk_of}
use Rattle.protocol.specs.Observer.{order_of}
use Rattle.protocol.specs.World.{WorldState, IsReached}

-- At a master that is up a chunk of which nothing was granted, and which is no copy under way, has no entry (sections 3.1 and 3.4).
abbrev pub UngrantedChunksHaveNoEntry : Type 0
UngrantedChunksHaveNoEntry =
    (config : Config) (servers clients : ℕ) (w : WorldState) → IsReached config servers clients w → IsTrue w.master.up
    → (handle : ℕ) (row : ChunkRow) → chunk_of w.master.logged.table handle ≡ Some row → row.granted ≡ 0 → table.get w.master.logged.copies handle ≡ None
    → order_of w.observer handle ≡ []
