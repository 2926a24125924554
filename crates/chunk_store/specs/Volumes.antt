-- A store's volume: what the store knows of its disk, whether it is open or not.
use Rattle.std.specs.Prelude.{◌≡◌, ℕ, ◌≤◌, ◌%◌, Bool, true, List, length}
use Rattle.disk_redo.specs.Redo.{IsAtRest}
use Rattle.replica_store.specs.Replicas.{ServerDisk}
use Rattle.replica_store.specs.declared.change.StoreChange.{StoreChange}
use Rattle.store_changes.specs.Areas.{area_of}
use Rattle.store_changes.specs.Changing.{LeavesEither, Says}
use Rattle.store_disk.specs.Places.{disk_size}
use Rattle.chunk_store.specs.Stores.{StoreState}
use Rattle.chunk_store.specs.declared.volume.StoreVolume.{StoreVolume}

-- Calls may be made of it, whatever its disk's slots hold: the disk is large enough, chunks are whole blocks, nothing is under way, and all is on it for good.
pub record IsReady {D : Type 0} (seen : D → List ℕ) (may_leave : D → List ℕ → Type 0) (store : StoreVolume D) : Type 0 where
  pub large : disk_size store.layout.chunk store.layout.block store.layout.slots ≤ length (seen store.disk)
  pub whole : store.layout.chunk % store.layout.block ≡ 0
  pub rest : IsAtRest seen may_leave (area_of store.layout.chunk store.layout.block) store.disk

-- The disk says this, for good, and the volume knows where. Each chunk is of whole blocks.
pub record IsOpen {D : Type 0} (seen : D → List ℕ) (may_leave : D → List ℕ → Type 0) (store : StoreVolume D) (d : ServerDisk) : Type 0 where
  pub says : Says store.layout.chunk store.layout.block store.layout.slots store.index (seen store.disk) d
  pub order : store.order ≡ record { epoch = d.epoch; count = d.count }
  pub large : disk_size store.layout.chunk store.layout.block store.layout.slots ≤ length (seen store.disk)
  pub whole : store.layout.chunk % store.layout.block ≡ 0
  pub rest : IsAtRest seen may_leave (area_of store.layout.chunk store.layout.block) store.disk

-- as a store's
abbrev pub LeavesChange : {D : Type 0} → (D → List ℕ) → (D → ℕ) → (D → ℕ → List ℕ → Type 0) → StoreVolume D → StoreVolume D → StoreChange → Type 0
LeavesChange seen moment left_since old new change =
    LeavesEither seen moment left_since old.layout.chunk old.layout.block old.layout.slots old.disk new.disk old.index change

-- what a volume is to the store's callers
abbrev pub store_of : {D : Type 0} → StoreVolume D → Bool → StoreState D
store_of volume is_open = record { disk = volume.disk; layout = volume.layout; order = volume.order; index = volume.index; is_open = is_open }

-- and back
abbrev pub volume_of : {D : Type 0} → StoreState D → StoreVolume D
volume_of store = record { disk = store.disk; layout = store.layout; order = store.order; index = store.index; hashed = tt }

-- Each chunk is of whole blocks; and while the store is open, calls may be made of its volume.
pub record IsSound {D : Type 0} (seen : D → List ℕ) (may_leave : D → List ℕ → Type 0) (volume : StoreVolume D) (is_open : Bool) : Type 0 where
  pub whole : volume.layout.chunk % volume.layout.block ≡ 0
  pub ready : is_open ≡ true → IsReady seen may_leave volume
