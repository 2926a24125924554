-- A volume of which calls may be made, before a change and after it.
use Rattle.std.proofs.Common.{◌≡◌, ℕ, ◌≤◌, List, length, sym, ap, ◌∙◌, subst}
use Rattle.disk_redo.specs.GateMoments.{OnlyReads}
use Rattle.disk_redo.specs.Redo.{IsAtRest, is_open}
use Rattle.gfs_types.specs.declared.ids.OrderNo.{OrderNo}
use Rattle.replica_store.specs.declared.change.StoreChange.{StoreChange}
use Rattle.store_disk.specs.Index.{IndexState}
use Rattle.store_disk.specs.Places.{disk_size}
use Rattle.store_changes.specs.Areas.{area_of}
use Rattle.store_changes.proofs.Made.{nothing_made}
use Rattle.chunk_store.specs.Volumes.{IsReady, LeavesChange}
use Rattle.chunk_store.specs.declared.volume.StoreVolume.{StoreVolume}

module _ {D : Type 0} (seen : D → List ℕ) (may_leave : D → List ℕ → Type 0) (store : StoreVolume D) (ready : IsReady seen may_leave store) where
  -- a change was made
  pub ready_after : (disk : D) (index : IndexState) (order : OrderNo) → length (seen disk) ≡ length (seen store.disk)
      → IsAtRest seen may_leave (area_of store.layout.chunk store.layout.block) disk
      → IsReady seen may_leave (record { disk = disk; layout = store.layout; order = order; index = index; hashed = tt })
  ready_after disk index order size rest = record {
    large = subst (λ (n : ℕ). disk_size store.layout.chunk store.layout.block store.layout.slots ≤ n) (sym size) ready.large;
    whole = ready.whole;
    rest = rest;
  }

  module _ (moment : D → ℕ) (left_since : D → ℕ → List ℕ → Type 0) where
    -- no call of the disk was made
    pub leaves_none : ((c : List ℕ) → left_since store.disk (moment store.disk) c → may_leave store.disk c) → (change : StoreChange) → LeavesChange seen moment left_since store store change
    leaves_none only_now change = nothing_made seen may_leave moment left_since store.layout.chunk store.layout.block store.layout.slots store.index change store.disk ready.rest.durable only_now

    -- the disk was read
    pub read_ready : (disk : D) → OnlyReads seen may_leave moment left_since store.disk disk
        → IsReady seen may_leave (record { disk = disk; layout = store.layout; order = store.order; index = store.index; hashed = tt })
    read_ready disk reads = ready_after disk store.index store.order (ap length reads.seen_same) (record {
      closed = ap (is_open (area_of store.layout.chunk store.layout.block)) reads.seen_same ∙ ready.rest.closed;
      durable = λ c left. ready.rest.durable c (reads.crash c left) ∙ sym reads.seen_same;
    })
