-- Opening a chunkserver's disk, for chunks of so many bytes in blocks of so many, in so many slots.
use Rattle.std.specs.Prelude.{◌≡◌, ◌⊎◌, ℕ, true, false, List}
use Rattle.disk_redo.specs.Redo.{stands_for}
use Rattle.replica_store.specs.Replicas.{ServerDisk, new_server_disk}
use Rattle.store_changes.specs.Areas.{area_of}
use Rattle.store_disk.specs.Formats.{IsFormatting, is_head_open}
use Rattle.chunk_store.specs.declared.found.FoundReplicas.{FoundReplicas}
use Rattle.store_disk.specs.Stored.{IsDiskOf, IsStored}

-- What a disk holds: no replicas where its head is closed, and else what its bytes stand for.
abbrev pub HoldsReplicas : ℕ → ℕ → ℕ → List ℕ → ServerDisk → Type 0
HoldsReplicas chunk block slots bytes d =
    ((is_head_open bytes ≡ false) × (d ≡ new_server_disk chunk block slots))
    ⊎ ((is_head_open bytes ≡ true) × IsStored chunk block slots (stands_for (area_of chunk block) bytes) d)

-- What was found is what the disk says.
pub record IsFound (chunk block slots : ℕ) (found : FoundReplicas) (bytes : List ℕ) (d : ServerDisk) : Type 0 where
  pub says : IsDiskOf chunk block slots found.index bytes d
  pub order : found.order ≡ record { epoch = d.epoch; count = d.count }

-- A stop within an opening leaves what one before it might have left; a disk that is being formatted, where its head was closed; or bytes that stand for what the disk held.
abbrev pub IsOpening : ℕ → ℕ → ℕ → List ℕ → (List ℕ → Type 0) → List ℕ → Type 0
IsOpening chunk block slots before may_leave c =
    may_leave c
    ⊎ ((is_head_open before ≡ false) × IsFormatting chunk block slots c)
    ⊎ ((d : ServerDisk) → HoldsReplicas chunk block slots before d → IsStored chunk block slots (stands_for (area_of chunk block) c) d)
