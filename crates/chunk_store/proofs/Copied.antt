-- A copy of a replica: its bytes are read, and stored under another handle.
use Rattle.std.proofs.Common.{◌≡◌, ◌⊎◌, inl, inr, ℕ, ◌≤◌, List, length, sym, subst, arith, Some}
use Rattle.std.specs.FinMap as map
use Rattle.disk_redo.specs.GateMoments.{OnlyReads}
use Rattle.disk_redo.proofs.Moments.{joined, weaker}
use Rattle.disk_redo.specs.Redo.{StandsOnly, stands_for}
use Rattle.disk_redo.specs.declared.range.RedoArea.{RedoArea}
use Rattle.replica_store.specs.declared.change.StoreChange.{StoreChange}
use Rattle.replica_store.specs.Replicas.{ServerDisk, disk_changed, replica_of}
use Rattle.store_disk.specs.declared.held.HeldReplica.{HeldReplica}
use Rattle.store_changes.specs.Areas.{area_of}
use Rattle.store_changes.specs.Changing.{Says}
use Rattle.store_disk.specs.Stored.{IsDiskOf, IsStored}
use Rattle.store_changes.specs.Images.{image_at}
use Rattle.store_changes.proofs.Imaged.{image_length}
use Rattle.chunk_store.specs.Volumes.{IsOpen, IsReady, LeavesChange}
use Rattle.chunk_store.specs.declared.volume.StoreVolume.{StoreVolume}
use Rattle.chunk_store.proofs.StillOpen.{enough_bytes, held_within, row_held}

module _ {D : Type 0} (seen : D → List ℕ) (may_leave : D → List ℕ → Type 0) (store : StoreVolume D) (d : ServerDisk) (is : IsOpen seen may_leave store d) where
  -- the bytes that were read fit a chunk
  pub image_fits : (h : ℕ) (found : HeldReplica) → map.get store.index.held h ≡ Some found → (bytes : List ℕ) → Some bytes ≡ image_at d h → length bytes ≤ store.layout.chunk
  image_fits h found there bytes read =
      let long = image_length d.block (replica_of d h) bytes found.row read (row_held seen may_leave store d is h found there) (enough_bytes seen may_leave store d is h) in
      omega (arith, long, (held_within seen may_leave store d is h found there).1)

module _ {D : Type 0} (seen : D → List ℕ) (may_leave : D → List ℕ → Type 0) (store : StoreVolume D) (ready : IsReady seen may_leave store) where
  module _ (moment : D → ℕ) (left_since : D → ℕ → List ℕ → Type 0) (mid : StoreVolume D) (reads : OnlyReads seen may_leave moment left_since store.disk mid.disk) (change : StoreChange) where
    abbrev Either : StoreChange → ServerDisk → List ℕ → Type 0
    Either made e bytes =
        IsStored store.layout.chunk store.layout.block store.layout.slots bytes e ⊎ IsStored store.layout.chunk store.layout.block store.layout.slots bytes (disk_changed e made)

    -- what a stop before the read leaves
    left_before : (e : ServerDisk) → Says store.layout.chunk store.layout.block store.layout.slots store.index (seen store.disk) e → (made : StoreChange) (c : List ℕ) → may_leave store.disk c
        → Either made e (stands_for (area_of store.layout.chunk store.layout.block) c)
    left_before e says made c left =
        let l = store.layout in
        inl (store.index, subst (λ (b : List ℕ). IsDiskOf l.chunk l.block l.slots store.index (stands_for (area_of l.chunk l.block) b) e) (sym (ready.rest.durable c left)) says)

    says_still : (e : ServerDisk) → Says store.layout.chunk store.layout.block store.layout.slots store.index (seen store.disk) e → Says store.layout.chunk store.layout.block store.layout.slots store.index (seen mid.disk) e
    says_still e says = let l = store.layout in subst (λ (b : List ℕ). Says l.chunk l.block l.slots store.index b e) (sym reads.seen_same) says

    -- the disk was read, and no more
    pub read_leaves : LeavesChange seen moment left_since store mid change
    read_leaves e says = record {
      read = inl (store.index, says_still e says);
      stop = weaker moment left_since store.disk mid.disk (may_leave store.disk) (λ c. Either change e (stands_for (area_of store.layout.chunk store.layout.block) c)) reads.any_moment (left_before e says change);
    }

    -- then it was changed
    pub change_leaves : (new : StoreVolume D) (made : StoreChange) → mid ≡ record store { disk = mid.disk } → ((e : ServerDisk) → Says store.layout.chunk store.layout.block store.layout.slots store.index (seen store.disk) e → disk_changed e made ≡ disk_changed e change) → LeavesChange seen moment left_since mid new made
        → LeavesChange seen moment left_since store new change
    change_leaves new made kept same leaves e says = record {
      read = either (stands_for area (seen new.disk)) run.read;
      stop = joined moment left_since store.disk mid.disk new.disk (may_leave store.disk) (λ c. Either made e (stands_for area c)) (λ c. Either change e (stands_for area c)) reads.any_moment run.stop (left_before e says change) (λ c p. either (stands_for area c) p);
    }
      where
        area : RedoArea
        area = area_of store.layout.chunk store.layout.block

        run : StandsOnly seen moment left_since area mid.disk new.disk (Either made e)
        run = subst (λ (s : StoreVolume D). LeavesChange seen moment left_since s new made) kept leaves e (says_still e says)

        either : (bytes : List ℕ) → Either made e bytes → Either change e bytes
        either bytes (inl p) = inl p
        either bytes (inr p) = inr (subst (λ (x : ServerDisk). IsStored store.layout.chunk store.layout.block store.layout.slots bytes x) (same e says) p)
