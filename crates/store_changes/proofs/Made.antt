-- What a change leaves.
use Rattle.std.proofs.Common.{◌≡◌, ◌⊎◌, inl, inr, ℕ, List, sym, subst}
use Rattle.disk.specs.Device.{Only}
use Rattle.disk_redo.proofs.Moments.{started}
use Rattle.disk_redo.proofs.Whole.{stands_as}
use Rattle.disk_redo.specs.Changes.{applied}
use Rattle.disk_redo.specs.Redo.{IsBeforeOrAfter, StandsOnly, stands_for}
use Rattle.disk_redo.specs.declared.range.RedoRange.{RedoRange}
use Rattle.replica_store.specs.declared.change.StoreChange.{StoreChange}
use Rattle.replica_store.specs.Replicas.{ServerDisk, disk_changed}
use Rattle.store_disk.specs.Index.{IndexState}
use Rattle.store_changes.specs.Areas.{area_of}
use Rattle.store_changes.specs.Changing.{IsChanged, LeavesEither, Says}
use Rattle.store_disk.specs.Stored.{IsDiskOf, IsStored}

module _ {D : Type 0} (seen : D → List ℕ) (may_leave : D → List ℕ → Type 0) (moment : D → ℕ) (left_since : D → ℕ → List ℕ → Type 0) (chunk block slots : ℕ) (index : IndexState) (change : StoreChange) where
  Either : ServerDisk → List ℕ → Type 0
  Either d bytes = IsStored chunk block slots bytes d ⊎ IsStored chunk block slots bytes (disk_changed d change)

  -- no call of the disk was made
  pub nothing_made : (old : D) → Only (seen old) (may_leave old) → ((c : List ℕ) → left_since old (moment old) c → may_leave old c) → LeavesEither seen moment left_since chunk block slots old old index change
  nothing_made old durable only_now d says = record {
    read = inl (index, says);
    stop = started moment left_since old _ (λ c left. subst (λ (l : List ℕ). IsStored chunk block slots (stands_for (area_of chunk block) l) d ⊎ IsStored chunk block slots (stands_for (area_of chunk block) l) (disk_changed d change)) (sym (durable c (only_now c left))) (inl (index, says)));
  }

  -- the ranges are the change
  pub change_made : (old new : D) (ranges : List RedoRange) (new_index : IndexState)
      → ((d : ServerDisk) → Says chunk block slots index (seen old) d → IsDiskOf chunk block slots new_index (applied ranges (stands_for (area_of chunk block) (seen old))) (disk_changed d change))
      → StandsOnly seen moment left_since (area_of chunk block) old new (IsBeforeOrAfter ranges (stands_for (area_of chunk block) (seen old)))
      → LeavesEither seen moment left_since chunk block slots old new index change
  change_made old new ranges new_index law stands d says =
      stands_as seen may_leave moment left_since (area_of chunk block) (IsBeforeOrAfter ranges (stands_for (area_of chunk block) (seen old)))
      (λ bytes. IsStored chunk block slots bytes d ⊎ IsStored chunk block slots bytes (disk_changed d change)) old new either stands
    where
      either : (bytes : List ℕ) → IsBeforeOrAfter ranges (stands_for (area_of chunk block) (seen old)) bytes → IsStored chunk block slots bytes d ⊎ IsStored chunk block slots bytes (disk_changed d change)
      either bytes (inl same) = inl (index, subst (λ (l : List ℕ). IsDiskOf chunk block slots index l d) (sym same) says)
      either bytes (inr made) = inr (new_index, subst (λ (l : List ℕ). IsDiskOf chunk block slots new_index l (disk_changed d change)) (sym made) (law d says))

  pub says_so : (old new : D) (ranges : List RedoRange) (new_index : IndexState)
      → ((d : ServerDisk) → Says chunk block slots index (seen old) d → IsDiskOf chunk block slots new_index (applied ranges (stands_for (area_of chunk block) (seen old))) (disk_changed d change))
      → stands_for (area_of chunk block) (seen new) ≡ applied ranges (stands_for (area_of chunk block) (seen old))
      → IsChanged chunk block slots index (seen old) new_index (seen new) change
  says_so old new ranges new_index law made d says = subst (λ (l : List ℕ). IsDiskOf chunk block slots new_index l (disk_changed d change)) (sym made) (law d says)
