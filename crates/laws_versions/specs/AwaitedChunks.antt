-- Laws of the snapshots that wait at the master, in every lawful list of events, restarts, losses and repeats included, that public functions of this crate state.
use Rattle.std.specs.Prelude.{◌≡◌, ℕ, None, IsTrue}
use Rattle.std.specs.List.{AllByRecursion}
use Rattle.std.specs.FinMap as table
use Rattle.gfs_types.specs.declared.config.Config.{Config}
use Rattle.protocol.specs.MasterSnapshots.{waits_for}
use Rattle.protocol.specs.World.{WorldState, IsReached}
use Rattle.protocol_invariant.specs.Leases.{IsWaitedFor}

-- Beside a snapshot that waits there is no version attempt of its chunks, and no copy under way for its files (section 3.4).
abbrev pub WaitingSnapshotsAreAlone : Type 0
WaitingSnapshotsAreAlone = (config : Config) (servers clients : ℕ) (w : WorldState) → IsReached config servers clients w → AllByRecursion (IsWaitedFor w) w.master.snapshots

-- Of a chunk for which a snapshot waits no version is attempted (section 3.4).
abbrev pub AwaitedChunksAreNotTried : Type 0
AwaitedChunksAreNotTried =
    (config : Config) (servers clients : ℕ) (w : WorldState) → IsReached config servers clients w → (handle : ℕ) → IsTrue (waits_for w.master handle) → table.get w.master.attempts handle ≡ None
