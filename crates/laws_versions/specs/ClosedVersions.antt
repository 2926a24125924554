-- Laws of versions that are closed, in every lawful list of events, restarts, losses and repeats included, that public functions of this crate state.
use Rattle.std.specs.Prelude.{◌≡◌, ◌≢◌, ℕ, ◌≤◌, List, Some, IsTrue}
use Rattle.std.specs.FinMap as table
use Rattle.gfs_types.specs.declared.config.Config.{Config}
use Rattle.messages.specs.declared.event.Event.{Event}
use Rattle.chunk_table.specs.ChunkTable.{ChunkRow, chunk_of}
use Rattle.protocol.specs.Choice.{Choice}
use Rattle.protocol.specs.Master.{VersionAttempt}
use Rattle.protocol.specs.World.{WorldState, after_events, IsReached}
use Rattle.laws_base.specs.Versions.{IsLeaseOver}

-- A version of a chunk is closed at the master: it was issued, it is not attempted, and where it is the granted one, its lease has ended.
pub record IsClosed (w : WorldState) (row : ChunkRow) (handle version : ℕ) : Type 0 where
  pub issued : version ≤ row.issued
  pub given_up : (a : VersionAttempt) → table.get w.master.attempts handle ≡ Some a → a.version ≢ version
  pub ended : version ≡ row.granted → row.lease_end ≤ w.observer.greatest

-- The lease of a version that is closed at a master that is up is over in all that follows, as long as clocks are kept, so that no server numbers a mutation under it, nor will (sections 3.1 and 4.3).
abbrev pub ClosedVersionsStayClosed : Type 0
ClosedVersionsStayClosed =
    (config : Config) (servers clients : ℕ) (w : WorldState) → IsReached config servers clients w → IsTrue w.master.up
    → (handle : ℕ) (row : ChunkRow) → chunk_of w.master.logged.table handle ≡ Some row → (version : ℕ) → IsClosed w row handle version
    → (steps : List (Event × Choice)) → IsTrue (after_events w steps).observer.are_clocks_kept → IsLeaseOver (after_events w steps) handle version
