-- What a mutation leaves, at each moment: first the disk is read, then it is changed.
use Rattle.std.proofs.Common.{◌≡◌, ◌⊎◌, inl, inr, ℕ, List, sym, ap, ◌∙◌, subst}
use Rattle.disk_redo.specs.GateMoments.{OnlyReads}
use Rattle.disk_redo.proofs.Moments.{joined, weaker}
use Rattle.disk_redo.specs.Changes.{applied}
use Rattle.disk_redo.specs.Redo.{IsAtRest, IsBeforeOrAfter, StandsOnly, is_open, stands_for}
use Rattle.disk_redo.specs.declared.range.RedoRange.{RedoRange}
use Rattle.replica_store.specs.declared.change.StoreChange.{StoreChange}
use Rattle.replica_store.specs.Replicas.{ServerDisk, disk_changed}
use Rattle.store_disk.specs.Index.{IndexState}
use Rattle.store_changes.specs.Areas.{area_of}
use Rattle.store_changes.specs.Changing.{LeavesEither, Says}
use Rattle.store_disk.specs.Stored.{IsDiskOf, IsStored}

module _ {D : Type 0} (seen : D → List ℕ) (may_leave : D → List ℕ → Type 0) (moment : D → ℕ) (left_since : D → ℕ → List ℕ → Type 0) (chunk block : ℕ) where
  -- a disk at rest that is read
  pub still_rests : (old new : D) → IsAtRest seen may_leave (area_of chunk block) old → OnlyReads seen may_leave moment left_since old new → IsAtRest seen may_leave (area_of chunk block) new
  still_rests old new rest reads = record {
    closed = ap (is_open (area_of chunk block)) reads.seen_same ∙ rest.closed;
    durable = λ c left. rest.durable c (reads.crash c left) ∙ sym reads.seen_same;
  }

  module _ (slots : ℕ) (index : IndexState) (change : StoreChange) where
    abbrev Either : ServerDisk → List ℕ → Type 0
    Either d bytes = IsStored chunk block slots bytes d ⊎ IsStored chunk block slots bytes (disk_changed d change)

    -- nothing was written
    pub only_read : (old new : D) → IsAtRest seen may_leave (area_of chunk block) old → OnlyReads seen may_leave moment left_since old new → LeavesEither seen moment left_since chunk block slots old new index change
    only_read old new rest reads d says = record {
      read = inl (index, subst (λ (l : List ℕ). IsDiskOf chunk block slots index (stands_for (area_of chunk block) l) d) (sym reads.seen_same) says);
      stop = weaker moment left_since old new (may_leave old) (λ c. Either d (stands_for (area_of chunk block) c)) reads.any_moment
          (λ c left. inl (index, subst (λ (l : List ℕ). IsDiskOf chunk block slots index (stands_for (area_of chunk block) l) d) (sym (rest.durable c left)) says));
    }

    module _ (old mid new : D) (ranges : List RedoRange) (new_index : IndexState) (reads : OnlyReads seen may_leave moment left_since old mid)
        (law : (d : ServerDisk) → Says chunk block slots index (seen old) d → IsDiskOf chunk block slots new_index (applied ranges (stands_for (area_of chunk block) (seen old))) (disk_changed d change)) where
      abbrev before : List ℕ
      before = stands_for (area_of chunk block) (seen mid)

      same : before ≡ stands_for (area_of chunk block) (seen old)
      same = ap (stands_for (area_of chunk block)) reads.seen_same

      -- it was written, or not
      pub written_either : IsAtRest seen may_leave (area_of chunk block) old → StandsOnly seen moment left_since (area_of chunk block) mid new (IsBeforeOrAfter ranges before)
          → LeavesEither seen moment left_since chunk block slots old new index change
      written_either rest made d says = record {
        read = either (stands_for (area_of chunk block) (seen new)) made.read;
        stop = joined moment left_since old mid new (may_leave old) (λ c. IsBeforeOrAfter ranges before (stands_for (area_of chunk block) c)) (λ c. Either d (stands_for (area_of chunk block) c)) reads.any_moment made.stop
            (λ c left. inl (index, subst (λ (l : List ℕ). IsDiskOf chunk block slots index (stands_for (area_of chunk block) l) d) (sym (rest.durable c left)) says))
            (λ c p. either (stands_for (area_of chunk block) c) p);
      }
        where
          either : (bytes : List ℕ) → IsBeforeOrAfter ranges before bytes → IsStored chunk block slots bytes d ⊎ IsStored chunk block slots bytes (disk_changed d change)
          either bytes (inl is) = inl (index, subst (λ (l : List ℕ). IsDiskOf chunk block slots index l d) (sym (is ∙ same)) says)
          either bytes (inr is) = inr (new_index, subst (λ (l : List ℕ). IsDiskOf chunk block slots new_index l (disk_changed d change)) (sym (is ∙ ap (applied ranges) same)) (law d says))

      -- it was written
      pub written_so : (d : ServerDisk) → stands_for (area_of chunk block) (seen new) ≡ applied ranges before → Says chunk block slots index (seen old) d
          → Says chunk block slots new_index (seen new) (disk_changed d change)
      written_so d made says = subst (λ (l : List ℕ). IsDiskOf chunk block slots new_index l (disk_changed d change)) (sym (made ∙ ap (applied ranges) same)) (law d says)
