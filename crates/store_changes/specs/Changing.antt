-- A change of a chunkserver's disk, for chunks of so many bytes in blocks of so many, in so many slots.
use Rattle.std.specs.Prelude.{◌⊎◌, ℕ, List}
use Rattle.disk_redo.specs.Redo.{StandsOnly, stands_for}
use Rattle.replica_store.specs.declared.change.StoreChange.{StoreChange}
use Rattle.replica_store.specs.Replicas.{ServerDisk, disk_changed}
use Rattle.store_disk.specs.Index.{IndexState}
use Rattle.store_changes.specs.Areas.{area_of}
use Rattle.store_disk.specs.Stored.{IsDiskOf, IsStored}

-- what the disk's bytes stand for says this, and the index knows where
abbrev pub Says : ℕ → ℕ → ℕ → IndexState → List ℕ → ServerDisk → Type 0
Says chunk block slots index bytes d = IsDiskOf chunk block slots index (stands_for (area_of chunk block) bytes) d

-- Whatever they said, they say it with the change made.
abbrev pub IsChanged : ℕ → ℕ → ℕ → IndexState → List ℕ → IndexState → List ℕ → StoreChange → Type 0
IsChanged chunk block slots index bytes new_index new_bytes change =
    (d : ServerDisk) → Says chunk block slots index bytes d → Says chunk block slots new_index new_bytes (disk_changed d change)

-- What is read, and what a stop at any moment leaves, says what they said before the change or after it.
abbrev pub LeavesEither : {D : Type 0} → (D → List ℕ) → (D → ℕ) → (D → ℕ → List ℕ → Type 0) → ℕ → ℕ → ℕ → D → D → IndexState → StoreChange → Type 0
LeavesEither seen moment left_since chunk block slots old new index change =
    (d : ServerDisk) → Says chunk block slots index (seen old) d
    → StandsOnly seen moment left_since (area_of chunk block) old new
    (λ bytes. IsStored chunk block slots bytes d ⊎ IsStored chunk block slots bytes (disk_changed d change))
