-- A snapshot that waits under its locks: what others do to the names leaves it unrefused (sections 3.4 and 4.1).
use Rattle.std.specs.Prelude.{◌≡◌, ℕ, None, IsFalse}
use Rattle.gfs_types.specs.declared.call.Call.{Call}
use Rattle.gfs_types.specs.declared.call.Call.TheVariants as call
use Rattle.gfs_types.specs.Paths.{Path}
use Rattle.relaxed_file.specs.Machine.{Machine}
use Rattle.relaxed_file.specs.NameStep.{refusal_of, performed}
use Rattle.relaxed_file.specs.Locks.{conflict}
use Rattle.relaxed_file.specs.Run.{Expire, Allows, after}

-- A call that meets no refusal, and no lock of the snapshot.
abbrev pub CallsLeaveSnapshotsUnrefused : Type 0
CallsLeaveSnapshotsUnrefused =
    (m : Machine) (c : Call) (moment : ℕ) (from to : Path) → refusal_of m.config m.names c ≡ None → IsFalse (conflict c (call.Snapshot from to)) → refusal_of m.config m.names (call.Snapshot from to) ≡ None
    → refusal_of m.config (performed m c moment).names (call.Snapshot from to) ≡ None

-- A hidden file that is collected.
abbrev pub CollectionsLeaveSnapshotsUnrefused : Type 0
CollectionsLeaveSnapshotsUnrefused =
    (m : Machine) (file moment : ℕ) (from to : Path) → Allows m (Expire file moment) → refusal_of m.config m.names (call.Snapshot from to) ≡ None
    → refusal_of m.config (after m (Expire file moment)).names (call.Snapshot from to) ≡ None
