-- The locks of a call: each proper ancestor of its paths is read, and the paths themselves are read or written (section 4.1).
use Rattle.std.specs.Prelude.{◌≡◌, ℕ, zero, suc, Bool, false, true, ◌&&◌, if◌then◌else◌, List, [], ◌∷◌, ◌++◌, map, flat_map, length, Option, Some, None, ◌==◌}
use Rattle.std.specs.List.{list_all}
use Rattle.std.specs.Str.{bytes_eq}
use Rattle.gfs_types.specs.Paths.{Path, root, is_path, parent}
use Rattle.gfs_types.specs.declared.call.Call.{Call}
use Rattle.relaxed_file.specs.Locks.{paths_of, writes}
use Rattle.name_locks.specs.declared.lock_set.Mode.{Mode}
use Rattle.name_locks.specs.declared.lock_set.Mode.TheVariants.{Read, Write}
use Rattle.name_locks.specs.Locks.{Lock, Table, Changes, held_by}
use Rattle.protocol.specs.Tables.{has_number}
use Rattle.protocol.specs.Master.{PendingSnapshot}

-- the directory above a path, the one above that, and so on up to the root, at most so many
abbrev pub above : ℕ → Path → List Path
above zero path = []
above (suc n) path = if bytes_eq path root then [] else parent path ∷ above n (parent path)

abbrev pub ancestors : Path → List Path
ancestors path = above (length path) path

abbrev pub reading : Path → Lock
reading path = (path, Read)

abbrev pub locks_on : Mode → Path → List Lock
locks_on mode path = (path, mode) ∷ map reading (ancestors path)

abbrev pub mode_of : Call → Mode
mode_of c = if writes c then Write else Read

abbrev pub locks_of : Call → List Lock
locks_of c = flat_map (locks_on (mode_of c)) (paths_of c)

abbrev pub are_paths : Call → Bool
are_paths c = list_all is_path (paths_of c)

abbrev pub snapshot_locks : Path → Path → List Lock
snapshot_locks from to = locks_on Write from ++ locks_on Write to

abbrev pub locks_of_snapshot : PendingSnapshot → List Lock
locks_of_snapshot s = snapshot_locks s.from s.to

-- the locks of the snapshot that waits under this ticket
abbrev pub locks_under : List PendingSnapshot → List ℕ → ℕ → Option (List Lock)
locks_under [] tickets n = None
locks_under (s ∷ snapshots) [] n = None
locks_under (s ∷ snapshots) (t ∷ tickets) n = if t == n then Some (locks_of_snapshot s) else locks_under snapshots tickets n

-- no number stands there twice
abbrev pub AreDistinct : List ℕ → Type 0
AreDistinct [] = Unit {0}
AreDistinct (n ∷ rest) = (has_number rest n ≡ false) × AreDistinct rest

-- its names are paths
abbrev pub has_paths : PendingSnapshot → Bool
has_paths s = is_path s.from && is_path s.to

-- Each snapshot that waits has a ticket of its own, and the taken sets are their locks.
pub record AreLocked (snapshots : List PendingSnapshot) (tickets : List ℕ) (table : Table) : Type 0 where
  pub each : length tickets ≡ length snapshots
  pub paths : list_all has_paths snapshots ≡ true
  pub distinct : AreDistinct tickets
  pub taken : (ticket : ℕ) → held_by table ticket ≡ locks_under snapshots tickets ticket

-- One ticket more, behind the others, that was vacant and now holds these locks.
pub record TakesOne (old new : List ℕ) (before after : Table) (locks : List Lock) : Type 0 where
  pub ticket : ℕ
  pub behind : new ≡ old ++ ticket ∷ []
  pub vacant : held_by before ticket ≡ None
  pub changes : Changes before after ticket (Some locks)

-- each ticket holds what it held
abbrev pub AreKept : Table → Table → Type 0
AreKept before after = (ticket : ℕ) → held_by after ticket ≡ held_by before ticket
