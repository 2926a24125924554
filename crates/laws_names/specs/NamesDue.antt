-- In each reached world, what the master does on the names unasked: snapshots that wait can be taken, and files that expire are due (sections 3.4 and 4.4).
use Rattle.std.specs.Prelude.{ℕ, ◌+◌, ◌≤◌, List, [], ◌∷◌, IsTrue, IsFalse}
use Rattle.std.specs.FinMap as table
use Rattle.gfs_types.specs.declared.config.Config.{Config}
use Rattle.gfs_types.specs.Paths.{hidden_name}
use Rattle.protocol.specs.Tables.{has_number}
use Rattle.protocol.specs.Master.{MasterState}
use Rattle.protocol.specs.MasterStep.{master_at, expired_files}
use Rattle.protocol.specs.World.{WorldState, IsReached}
use Rattle.laws_names.specs.NameSteps.{IsOnlyName}
use Rattle.laws_names.specs.WaitingSnapshots.{AreUnrefused}

-- The names refuse no snapshot that waits.
abbrev pub WaitingSnapshotsAreUnrefused : Type 0
WaitingSnapshotsAreUnrefused =
    (config : Config) (servers clients : ℕ) (w : WorldState) → IsReached config servers clients w → IsTrue w.master.up → AreUnrefused w.master.logged.names w.master.snapshots

-- The file's only name is a hidden one, and it was kept long enough.
abbrev pub IsDue : MasterState → ℕ → Type 0
IsDue m file =
    (moment : ℕ) × IsOnlyName m.logged.names (hidden_name moment file) file × IsTrue (table.contains_key m.logged.table.files file) × (moment + m.config.keep_ms ≤ m.now)

-- such files, no one twice
abbrev pub AreDue : MasterState → List ℕ → Type 0
AreDue m [] = Unit {0}
AreDue m (file ∷ rest) = IsDue m file × IsFalse (has_number rest file) × AreDue m rest

-- The files that expire at a moment are due.
abbrev pub ExpiringFilesAreOld : Type 0
ExpiringFilesAreOld =
    (config : Config) (servers clients : ℕ) (w : WorldState) → IsReached config servers clients w → IsTrue w.master.up → (moment : ℕ)
    → AreDue (master_at w.master moment) (expired_files (master_at w.master moment))
