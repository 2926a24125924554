-- The disk that a store hands back.
use Rattle.std.proofs.Common.{◌≡◌, inl, inr, ℕ, true, List, sym, subst}
use Rattle.disk.specs.Device.{NoMore}
use Rattle.disk_redo.specs.GateMoments.{OnlyReads}
use Rattle.gfs_types.specs.declared.ids.OrderNo.{OrderNo}
use Rattle.replica_store.specs.Replicas.{ServerDisk, disk_changed}
use Rattle.chunk_store.specs.Opening.{HoldsReplicas}
use Rattle.chunk_store.specs.Reopening.{IsSaid}
use Rattle.chunk_store.specs.Stores.{StoreState}
use Rattle.chunk_store.proofs.OpenHeads.{holds_stored}
use Rattle.chunk_store.proofs.Stopped.{held, held_after}
use Rattle.disk_store.specs.Known.{Rows}
use Rattle.disk_store.specs.Standing.{IsKept, LeavesHolding, changes_of, disk_said, is_standing_open}
use Rattle.disk_store.specs.declared.standing.DiskStoreState.{DiskStoreState}
use Rattle.disk_store.specs.declared.standing.DiskStoreState.TheVariants.{Open, Unread, Changing}

-- a disk that was only read leaves no more
pub no_more : {D : Type 0} (seen : D → List ℕ) (may_leave : D → List ℕ → Type 0) (moment : D → ℕ) (left_since : D → ℕ → List ℕ → Type 0) (old new : D) → OnlyReads seen may_leave moment left_since old new → NoMore (may_leave old) (may_leave new)
no_more seen may_leave moment left_since old new reads c left = reads.crash c left

module _ {D : Type 0} (seen : D → List ℕ) (may_leave : D → List ℕ → Type 0) (store : StoreState D) (order : OrderNo) (rows : Rows) where
  -- in the sizes of the disk
  in_sizes : (d e : ServerDisk) (standing : DiskStoreState) → IsKept seen may_leave store order rows d standing → (bytes : List ℕ) → HoldsReplicas store.layout.chunk store.layout.block store.layout.slots bytes e → HoldsReplicas d.chunk d.block d.slots bytes e
  in_sizes d e standing kept bytes holds =
      subst (λ (n : ℕ). HoldsReplicas n d.block d.slots bytes e) (sym kept.chunk_is)
      (subst (λ (n : ℕ). HoldsReplicas store.layout.chunk n d.slots bytes e) (sym kept.block_is)
      (subst (λ (n : ℕ). HoldsReplicas store.layout.chunk store.layout.block n bytes e) (sym kept.slots_is) holds))

  said_holds : (c : List ℕ) (e : ServerDisk) → IsSaid store.layout.chunk store.layout.block store.layout.slots c e → HoldsReplicas store.layout.chunk store.layout.block store.layout.slots c e
  said_holds c e says = holds_stored store.layout.chunk store.layout.block store.layout.slots c e says

  module _ (before : List (StoreState D)) where
    pub disk_holds : (standing : DiskStoreState) → IsKept seen may_leave store order rows (disk_said seen store before standing) standing → is_standing_open standing ≡ true
        → (let d = disk_said seen store before standing in HoldsReplicas d.chunk d.block d.slots (seen store.disk) d)
    disk_holds Open kept opened = (let d = disk_said seen store before Open in in_sizes d d Open kept (seen store.disk) (held seen may_leave store d kept.stands))
    disk_holds (Unread change) kept opened = absurd cc
    disk_holds (Changing change) kept opened = absurd cc

    pub disk_left : (standing : DiskStoreState) → IsKept seen may_leave store order rows (disk_said seen store before standing) standing → LeavesHolding (may_leave store.disk) (disk_said seen store before standing) (changes_of standing)
    disk_left Open kept c left = (let d = disk_said seen store before Open in inl (in_sizes d d Open kept c (held_after seen may_leave store d kept.stands c left)))
    disk_left (Unread change) kept c left =
        let d = disk_said seen store before (Unread change) in
        elim (kept.stands c left) [
          | inl says ↦ inl (in_sizes d d (Unread change) kept c (said_holds c d says))
          | inr says ↦ inl (in_sizes d d (Unread change) kept c (said_holds c d says))
        ]
    disk_left (Changing change) kept c left =
        let d = disk_said seen store before (Changing change) in
        elim (kept.stands c left) [
          | inl says ↦ inl (in_sizes d d (Changing change) kept c (said_holds c d says))
          | inr says ↦ inr (in_sizes d (disk_changed d change) (Changing change) kept c (said_holds c (disk_changed d change) says))
        ]
