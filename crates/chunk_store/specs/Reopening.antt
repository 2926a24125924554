-- What a disk's bytes say.
use Rattle.std.specs.Prelude.{ℕ, List}
use Rattle.disk_redo.specs.Redo.{stands_for}
use Rattle.replica_store.specs.Replicas.{ServerDisk}
use Rattle.store_changes.specs.Areas.{area_of}
use Rattle.store_disk.specs.Stored.{IsStored}

-- the disk's bytes say this
abbrev pub IsSaid : ℕ → ℕ → ℕ → List ℕ → ServerDisk → Type 0
IsSaid chunk block slots bytes d = IsStored chunk block slots (stands_for (area_of chunk block) bytes) d
