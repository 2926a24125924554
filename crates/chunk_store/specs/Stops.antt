-- What stops leave on a store's disk, for chunks of so many bytes in blocks of so many, in so many slots.
use Rattle.std.specs.Prelude.{◌⊎◌, ℕ, List}
use Rattle.disk_redo.specs.GateMoments.{LeavesOnly}
use Rattle.replica_store.specs.Replicas.{ServerDisk}
use Rattle.chunk_store.specs.Opening.{HoldsReplicas}

-- the disk holds one of these
abbrev pub HoldsEither : ℕ → ℕ → ℕ → ServerDisk → ServerDisk → List ℕ → Type 0
HoldsEither chunk block slots before after bytes = HoldsReplicas chunk block slots bytes before ⊎ HoldsReplicas chunk block slots bytes after

-- What is read, and what a stop at any moment since old leaves, is a disk that holds what it held before or after: opened again, it says so.
pub record ReopensEither {D : Type 0} (seen : D → List ℕ) (moment : D → ℕ) (left_since : D → ℕ → List ℕ → Type 0) (chunk block slots : ℕ) (old new : D) (before after : ServerDisk) : Type 0 where
  pub read : HoldsEither chunk block slots before after (seen new)
  pub stop : LeavesOnly moment left_since old new (HoldsEither chunk block slots before after)
