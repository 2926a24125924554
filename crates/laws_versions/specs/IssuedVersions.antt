-- Laws of every lawful list of events on chunks of which a number was issued since the last grant, that public functions of this crate state.
use Rattle.std.specs.Prelude.{◌≡◌, ℕ, ◌<◌, IsTrue}
use Rattle.gfs_types.specs.declared.config.Config.{Config}
use Rattle.chunk_table.specs.ChunkTable.{ChunkRow}
use Rattle.primary_order.specs.SerialOrder.{SerialOrder}
use Rattle.protocol.specs.World.{WorldState, IsReached}
use Rattle.laws_base.specs.Laws.{HoldsLastingLease}
use Rattle.laws_base.specs.Versions.{AreLeasesOver}
use Rattle.laws_versions.specs.MasterKnowledge.{IsRowOf}

-- Where clocks are kept, each lease of a chunk is over once a number was issued since the last grant, also one that was logged and sent to nobody (section 3.1).
abbrev pub IssuedChunksHaveNoLease : Type 0
IssuedChunksHaveNoLease =
    (config : Config) (servers clients : ℕ) (w : WorldState) → IsReached config servers clients w → IsTrue w.observer.are_clocks_kept
    → (handle : ℕ) (row : ChunkRow) → IsRowOf w.master handle row → row.granted < row.issued → AreLeasesOver w handle

-- So a lease that lasts is of the version that was granted last, and no number was issued of its chunk since (section 3.1).
abbrev pub LastingLeasesAreOfTheLastNumber : Type 0
LastingLeasesAreOfTheLastNumber =
    (config : Config) (servers clients : ℕ) (w : WorldState) → IsReached config servers clients w → IsTrue w.observer.are_clocks_kept
    → (index handle : ℕ) (p : SerialOrder) → HoldsLastingLease w index handle p → (row : ChunkRow) → IsRowOf w.master handle row
    → (row.granted ≡ p.held.version) × (row.issued ≡ p.held.version)
