-- The snapshots that wait at the master: its steps leave them unrefused (sections 3.4 and 4.1).
use Rattle.std.specs.Prelude.{◌≡◌, ℕ, Bool, List, [], ◌∷◌, Some, None, IsFalse}
use Rattle.std.specs.List.{AllByRecursion}
use Rattle.gfs_types.specs.Paths.{Path}
use Rattle.messages.specs.declared.event.NodeInput.{NodeInput}
use Rattle.relaxed_file.specs.Names.{Names, File, node_at}
use Rattle.relaxed_file.specs.Locks.{conflict}
use Rattle.protocol.specs.Master.{MasterState, PendingSnapshot}
use Rattle.protocol.specs.MasterNames.{snapshot_call}
use Rattle.protocol.specs.MasterSnapshots.{is_same_snapshot}
use Rattle.protocol.specs.MasterStep.{master_goes}
use Rattle.laws_names.specs.Names.{snapshot_refusal}

-- two snapshots of two requests; the later one's locks don't conflict with the earlier one's
pub record PassEachOther (earlier later : PendingSnapshot) : Type 0 where
  pub quiet : IsFalse (conflict (snapshot_call later) (snapshot_call earlier))
  pub others : IsFalse (is_same_snapshot earlier later)

abbrev pub AllPassEachOther : List PendingSnapshot → Type 0
AllPassEachOther [] = Unit {0}
AllPassEachOther (s ∷ rest) = AllByRecursion (PassEachOther s) rest × AllPassEachOther rest

-- the names refuse none of the snapshots that wait, and these pass each other's locks
pub record AreUnrefused (names : Names) (snapshots : List PendingSnapshot) : Type 0 where
  pub unrefused : AllByRecursion (λ s. snapshot_refusal names s ≡ None) snapshots
  pub apart : AllPassEachOther snapshots

-- no file has two names
abbrev pub HasNoSecondName : Names → Type 0
HasNoSecondName names = (file : ℕ) (one other : Path) → node_at names one ≡ Some (File file) → node_at names other ≡ Some (File file) → one ≡ other

-- Where no file has two names, each step of the master leaves them so, whatever call, message or tick it takes.
abbrev pub StepsLeaveSnapshotsUnrefused : Type 0
StepsLeaveSnapshotsUnrefused =
    (m : MasterState) (moment : ℕ) (i : NodeInput) (refused : List Bool) → HasNoSecondName m.logged.names → AreUnrefused m.logged.names m.snapshots
    → AreUnrefused (master_goes m moment i refused).master.logged.names (master_goes m moment i refused).master.snapshots
