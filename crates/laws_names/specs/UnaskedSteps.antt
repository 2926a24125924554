-- What the master does on the names unasked: snapshots that are taken, and hidden files that expire (sections 3.4 and 4.4).
use Rattle.std.specs.Prelude.{◌≡◌, ℕ, ◌+◌, ◌≤◌, List, [], ◌∷◌, None, IsTrue, IsFalse, Contains}
use Rattle.std.specs.FinMap as table
use Rattle.gfs_types.specs.Paths.{hidden_name}
use Rattle.relaxed_file.specs.Names.{copied_entries}
use Rattle.relaxed_file.specs.Machine.{Machine}
use Rattle.relaxed_file.specs.NameStep.{AllRoundsClosed}
use Rattle.protocol.specs.Tables.{has_number}
use Rattle.protocol.specs.Logged.{Logged}
use Rattle.protocol.specs.Master.{MasterDoing, PendingSnapshot}
use Rattle.protocol.specs.MasterSnapshots.{takes_snapshot}
use Rattle.protocol.specs.MasterStep.{expires_all}
use Rattle.laws_names.specs.Alike.{Requests}
use Rattle.laws_names.specs.NameSteps.{AreNamedFilesThere, IsOnlyName}
use Rattle.laws_names.specs.Followed.{IsBeside, IsFollowed}
use Rattle.laws_names.specs.Names.{snapshot_refusal}

-- A snapshot that waits is taken, where its names still allow it and its rounds are closed: or there is no room for its names, or none in the log.
abbrev pub SnapshotsAreFollowed : Type 0
SnapshotsAreFollowed =
    (d : MasterDoing) (m : Machine) (requests : Requests) (s : PendingSnapshot)
    → IsBeside d m requests → AreNamedFilesThere d.master.logged → Contains d.master.snapshots s → snapshot_refusal d.master.logged.names s ≡ None
    → AllRoundsClosed m (copied_entries m.names s.from s.to) → IsFollowed m (takes_snapshot d s) requests

-- The file's only name is a hidden one, whose moment is long past at the machine.
abbrev pub IsOldFile : Logged → Machine → ℕ → Type 0
IsOldFile l m file =
    (moment : ℕ) × IsOnlyName l.names (hidden_name moment file) file × IsTrue (table.contains_key l.table.files file) × (moment + m.config.keep_ms ≤ m.clock)

-- such files, no one twice
abbrev pub AreOldFiles : Logged → Machine → List ℕ → Type 0
AreOldFiles l m [] = Unit {0}
AreOldFiles l m (file ∷ rest) = IsOldFile l m file × IsFalse (has_number rest file) × AreOldFiles l m rest

-- Old files expire, as far as the log has room.
abbrev pub ExpirationsAreFollowed : Type 0
ExpirationsAreFollowed =
    (d : MasterDoing) (m : Machine) (requests : Requests) (files : List ℕ)
    → IsBeside d m requests → AreOldFiles d.master.logged m files → IsFollowed m (expires_all d files) requests
