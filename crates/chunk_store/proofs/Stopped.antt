-- What a stop leaves is opened again.
use Rattle.std.proofs.Common.{◌≡◌, ◌⊎◌, inl, inr, ℕ, List, refl, sym, subst}
use Rattle.disk_redo.specs.GateMoments.{LeavesOnly, OnlyReads}
use Rattle.disk_redo.specs.Redo.{StandsOnly, stands_for}
use Rattle.disk_redo.proofs.Moments.{weaker}
use Rattle.replica_store.specs.Replicas.{ServerDisk, new_server_disk}
use Rattle.store_changes.specs.Areas.{area_of}
use Rattle.store_disk.specs.Formats.{IsFormatting}
use Rattle.store_disk.specs.Stored.{IsStored}
use Rattle.chunk_store.specs.Opening.{HoldsReplicas, IsOpening}
use Rattle.chunk_store.specs.Stops.{HoldsEither, ReopensEither}
use Rattle.chunk_store.specs.Stores.{IsOpen, StoreState}
use Rattle.chunk_store.proofs.Kept.{formatted_holds}
use Rattle.chunk_store.proofs.Moments.{closed_holds}
use Rattle.chunk_store.proofs.OpenHeads.{holds_stored}

module _ (chunk block slots : ℕ) where
  -- a disk that is being formatted holds no replicas
  pub forming_holds : (c : List ℕ) → IsFormatting chunk block slots c → HoldsReplicas chunk block slots c (new_server_disk chunk block slots)
  forming_holds c (inl closed) = inl (closed, refl)
  forming_holds c (inr is) = holds_stored chunk block slots c (new_server_disk chunk block slots) (formatted_holds chunk block slots c is)

  -- what stands for the same holds the same
  pub same_holds : (b c : List ℕ) (d : ServerDisk) → stands_for (area_of chunk block) c ≡ stands_for (area_of chunk block) b → IsStored chunk block slots (stands_for (area_of chunk block) b) d → HoldsReplicas chunk block slots c d
  same_holds b c d same is = holds_stored chunk block slots c d (subst (λ (l : List ℕ). IsStored chunk block slots l d) (sym same) is)

module _ {D : Type 0} (seen : D → List ℕ) (may_leave : D → List ℕ → Type 0) (moment : D → ℕ) (left_since : D → ℕ → List ℕ → Type 0) (chunk block slots : ℕ) where
  -- what is read, and what a stop leaves, stands for one of these
  pub reopens_either : (old new : D) (d e : ServerDisk) → StandsOnly seen moment left_since (area_of chunk block) old new (λ bytes. IsStored chunk block slots bytes d ⊎ IsStored chunk block slots bytes e)
      → ReopensEither seen moment left_since chunk block slots old new d e
  reopens_either old new d e run = record {
    read = one (seen new) run.read;
    stop = weaker moment left_since old new (λ c. IsStored chunk block slots (stands_for (area_of chunk block) c) d ⊎ IsStored chunk block slots (stands_for (area_of chunk block) c) e) (HoldsEither chunk block slots d e) run.stop one;
  }
    where
      one : (c : List ℕ) → IsStored chunk block slots (stands_for (area_of chunk block) c) d ⊎ IsStored chunk block slots (stands_for (area_of chunk block) c) e → HoldsEither chunk block slots d e c
      one c (inl is) = inl (holds_stored chunk block slots c d is)
      one c (inr is) = inr (holds_stored chunk block slots c e is)

  pub opening_holds : (old new : D) (d : ServerDisk) → HoldsReplicas chunk block slots (seen old) d → ((c : List ℕ) → may_leave old c → HoldsReplicas chunk block slots c d)
      → LeavesOnly moment left_since old new (IsOpening chunk block slots (seen old) (may_leave old)) → LeavesOnly moment left_since old new (λ c. HoldsReplicas chunk block slots c d)
  opening_holds old new d holds left run = weaker moment left_since old new (IsOpening chunk block slots (seen old) (may_leave old)) (λ c. HoldsReplicas chunk block slots c d) run by
    where
      by : (c : List ℕ) → IsOpening chunk block slots (seen old) (may_leave old) c → HoldsReplicas chunk block slots c d
      by c (inl was) = left c was
      by c (inr (inl forming)) = subst (λ (e : ServerDisk). HoldsReplicas chunk block slots c e) (sym (closed_holds chunk block slots (seen old) d forming.0 holds)) (forming_holds chunk block slots c forming.1)
      by c (inr (inr so)) = holds_stored chunk block slots c d (so d holds)

module _ {D : Type 0} (seen : D → List ℕ) (may_leave : D → List ℕ → Type 0) (store : StoreState D) (d : ServerDisk) (is : IsOpen seen may_leave store d) where
  -- an open store's disk holds what it says
  pub held : HoldsReplicas store.layout.chunk store.layout.block store.layout.slots (seen store.disk) d
  held = holds_stored store.layout.chunk store.layout.block store.layout.slots (seen store.disk) d (store.index, is.says)

  -- and so does what a stop leaves
  pub held_after : (c : List ℕ) → may_leave store.disk c → HoldsReplicas store.layout.chunk store.layout.block store.layout.slots c d
  held_after c left = subst (λ (l : List ℕ). HoldsReplicas store.layout.chunk store.layout.block store.layout.slots l d) (sym (is.rest.durable c left)) held

  -- also while it is read
  pub reads_hold : (moment : D → ℕ) (left_since : D → ℕ → List ℕ → Type 0) (new : D) → OnlyReads seen may_leave moment left_since store.disk new
      → LeavesOnly moment left_since store.disk new (λ c. HoldsReplicas store.layout.chunk store.layout.block store.layout.slots c d)
  reads_hold moment left_since new reads =
      weaker moment left_since store.disk new (may_leave store.disk) (λ c. HoldsReplicas store.layout.chunk store.layout.block store.layout.slots c d) reads.any_moment held_after
