-- The disk that a store handed back stops, and is opened again.
use Rattle.std.proofs.Common.{◌≡◌, ◌≤◌, inl, inr, ℕ, List, refl, sym, subst}
use Rattle.disk.specs.Device.{Only}
use Rattle.disk_redo.specs.GateMoments.{LeavesOnly}
use Rattle.replica_store.specs.declared.change.StoreChange.{StoreChange}
use Rattle.replica_store.specs.Replicas.{ServerDisk, disk_changed_by_all}
use Rattle.replica_store.specs.Stores.{IsFound}
use Rattle.chunk_store.specs.Opening.{HoldsReplicas, IsOpening}
use Rattle.chunk_store.proofs.Stopped.{opening_holds}
use Rattle.disk_store.specs.Standing.{LeavesHolding}

-- what a stop left of the disk holds, in these sizes
pub record Found (chunk block slots : ℕ) (d : ServerDisk) (under_way : List StoreChange) (bytes : List ℕ) : Type 0 where
  pub disk : ServerDisk
  pub is_found : IsFound d under_way disk
  pub holds : HoldsReplicas chunk block slots bytes disk

module _ (chunk block slots : ℕ) (d : ServerDisk) (under_way : List StoreChange) (chunk_is : d.chunk ≡ chunk) (block_is : d.block ≡ block) (slots_is : d.slots ≡ slots) where
  in_sizes : (bytes : List ℕ) (e : ServerDisk) → HoldsReplicas d.chunk d.block d.slots bytes e → HoldsReplicas chunk block slots bytes e
  in_sizes bytes e h =
      subst (λ (n : ℕ). HoldsReplicas n block slots bytes e) chunk_is (subst (λ (n : ℕ). HoldsReplicas d.chunk n slots bytes e) block_is (subst (λ (n : ℕ). HoldsReplicas d.chunk d.block n bytes e) slots_is h))

  in_own : (bytes : List ℕ) (e : ServerDisk) → HoldsReplicas chunk block slots bytes e → HoldsReplicas d.chunk d.block d.slots bytes e
  in_own bytes e h =
      subst (λ (n : ℕ). HoldsReplicas n d.block d.slots bytes e) (sym chunk_is) (subst (λ (n : ℕ). HoldsReplicas chunk n d.slots bytes e) (sym block_is) (subst (λ (n : ℕ). HoldsReplicas chunk block n bytes e) (sym slots_is) h))

  pub found : (may_leave : List ℕ → Type 0) (bytes : List ℕ) → LeavesHolding may_leave d under_way → may_leave bytes → Found chunk block slots d under_way bytes
  found may_leave bytes leaves left = elim (leaves bytes left) [
    | inl same ↦ record { disk = d; is_found = inl refl; holds = in_sizes bytes d same }
    | inr made ↦ (
        let after : ServerDisk = disk_changed_by_all d under_way in
        record { disk = after; is_found = inr refl; holds = in_sizes bytes after made })
  ]

  -- where it can't be opened, a stop leaves what it held
  pub still_left : {D : Type 0} (seen : D → List ℕ) (may_leave : D → List ℕ → Type 0) (moment : D → ℕ) (left_since : D → ℕ → List ℕ → Type 0)
      → ((disk : D) (t : ℕ) (c : List ℕ) → t ≤ moment disk → may_leave disk c → left_since disk t c) → (old new : D) → Found chunk block slots d under_way (seen old) → Only (seen old) (may_leave old)
      → LeavesOnly moment left_since old new (IsOpening chunk block slots (seen old) (may_leave old)) → LeavesHolding (may_leave new) d under_way
  still_left seen may_leave moment left_since counts_now old new f only run c left =
      let holds = opening_holds seen may_leave moment left_since chunk block slots old new f.disk f.holds (λ b was. subst (λ (l : List ℕ). HoldsReplicas chunk block slots l f.disk) (sym (only b was)) f.holds) run in
      let now = in_own c f.disk (holds.each c (counts_now new (moment old) c holds.later left)) in
      elim f.is_found [
        | inl same ↦ inl (subst (λ (e : ServerDisk). HoldsReplicas d.chunk d.block d.slots c e) same now)
        | inr made ↦ inr (subst (λ (e : ServerDisk). HoldsReplicas d.chunk d.block d.slots c e) made now)
      ]
