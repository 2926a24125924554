-- How names go, and what a snapshot copies, in every run (sections 3.4, 4.1 and 4.4).
use Rattle.std.specs.Prelude.{◌≡◌, ℕ, ◌<◌, Some, None, IsFalse, Contains}
use Rattle.gfs_types.specs.declared.call.Call.{Call}
use Rattle.gfs_types.specs.declared.call.Call.TheVariants as call
use Rattle.gfs_types.specs.declared.config.Config.{Config}
use Rattle.gfs_types.specs.Paths.{Path, hidden_name}
use Rattle.relaxed_file.specs.Names.{Node, File, node_at, copied_entries}
use Rattle.relaxed_file.specs.Machine.{Machine, Outcome, chunk_at, chunk_count}
use Rattle.relaxed_file.specs.NameStep.{is_refused}
use Rattle.relaxed_file.specs.Run.{Action, Step, Expire, OnOpen, Allows, after, IsReached}

-- the call takes the name away
abbrev pub TakesAway : Path → Call → Type 0
TakesAway path (call.Rmdir p) = p ≡ path
TakesAway path (call.Delete p) = p ≡ path
TakesAway path (call.Rename p q) = p ≡ path
TakesAway path other = ⊥

-- the action is a step of such a call that is not refused, or a hidden file is collected under that name
abbrev pub IsEndOfName : Machine → Path → Action → Type 0
IsEndOfName m path (Step client moment outcome) = IsFalse (is_refused outcome) × OnOpen m client (λ current. TakesAway path current.asked.call)
IsEndOfName m path (Expire file moment) = path ≡ hidden_name moment file
IsEndOfName m path other = ⊥

-- A name goes only by Rmdir, Delete or Rename, or when its hidden file is collected.
abbrev pub NamesGoByCalls : Type 0
NamesGoByCalls =
    (m : Machine) (action : Action) (path : Path) (node : Node)
    → Allows m action → node_at m.names path ≡ Some node → node_at (after m action).names path ≡ None → IsEndOfName m path action

-- the file has the shape, the chunks, the orders and the rounds that another one has in another state
abbrev pub HasChunksOf : Machine → ℕ → Machine → ℕ → Type 0
HasChunksOf n copy m file =
    (chunk_count n copy ≡ chunk_count m file) × ((index : ℕ) → chunk_at n copy index ≡ chunk_at m file index) × ((n.files copy).shape ≡ (m.files file).shape)

-- Each file that a snapshot copies comes to stand under its new name as a new file with the shape and the chunks of its source, which keeps its own.
abbrev pub SnapshotsCopyChunks : Type 0
SnapshotsCopyChunks =
    (config : Config) (m : Machine) (client moment : ℕ) (outcome : Outcome) (p q path : Path) (file : ℕ)
    → IsReached config m → Allows m (Step client moment outcome) → IsFalse (is_refused outcome)
    → OnOpen m client (λ current. current.asked.call ≡ call.Snapshot p q)
    → Contains (copied_entries m.names p q) (path, File file)
    → (copy : ℕ) × (node_at (after m (Step client moment outcome)).names path ≡ Some (File copy)) × (m.file_count < copy)
    × HasChunksOf (after m (Step client moment outcome)) copy m file × HasChunksOf (after m (Step client moment outcome)) file m file
