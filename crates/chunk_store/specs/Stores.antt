-- A store that is open on its disk.
use Rattle.std.specs.Prelude.{◌≡◌, ℕ, ◌≤◌, ◌%◌, Bool, true, List, length}
use Rattle.disk_redo.specs.Redo.{IsAtRest}
use Rattle.gfs_types.specs.declared.ids.OrderNo.{OrderNo}
use Rattle.replica_store.specs.Replicas.{ServerDisk}
use Rattle.replica_store.specs.declared.change.StoreChange.{StoreChange}
use Rattle.store_changes.specs.Areas.{area_of}
use Rattle.store_changes.specs.Changing.{LeavesEither, Says}
use Rattle.store_disk.specs.Index.{IndexState}
use Rattle.store_disk.specs.Places.{disk_size}
use Rattle.store_disk.specs.declared.places.Layout.{Layout}

-- a store: its disk and this one's layout, the number of the last order that was taken, where the replicas lie, and whether the store is open
pub record StoreState (D : Type 0) : Type 0 where
  pub disk : D
  pub layout : Layout
  pub order : OrderNo
  pub index : IndexState
  pub is_open : Bool

-- The store is open, and its disk says this, for good. The store knows where. Each chunk is of whole blocks.
pub record IsOpen {D : Type 0} (seen : D → List ℕ) (may_leave : D → List ℕ → Type 0) (store : StoreState D) (d : ServerDisk) : Type 0 where
  pub is_open : store.is_open ≡ true
  pub says : Says store.layout.chunk store.layout.block store.layout.slots store.index (seen store.disk) d
  pub order : store.order ≡ record { epoch = d.epoch; count = d.count }
  pub large : disk_size store.layout.chunk store.layout.block store.layout.slots ≤ length (seen store.disk)
  pub whole : store.layout.chunk % store.layout.block ≡ 0
  pub rest : IsAtRest seen may_leave (area_of store.layout.chunk store.layout.block) store.disk

-- What is read, and what a stop at any moment of a call leaves, says what the disk said before the change or after it.
abbrev pub LeavesChange : {D : Type 0} → (D → List ℕ) → (D → ℕ) → (D → ℕ → List ℕ → Type 0) → StoreState D → StoreState D → StoreChange → Type 0
LeavesChange seen moment left_since old new change =
    LeavesEither seen moment left_since old.layout.chunk old.layout.block old.layout.slots old.disk new.disk old.index change
