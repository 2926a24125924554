-- What a stop leaves while a disk is opened.
use Rattle.std.proofs.Common.{◌≡◌, inl, inr, ℕ, true, false, List, sym, ap, ◌∙◌, subst}
use Rattle.std.specs.Prelude.{Err, Ok, OnOk, Result}
use Rattle.disk.specs.Device.{Only}
use Rattle.disk_redo.specs.GateMoments.{LeavesOnly, OnlyReads}
use Rattle.disk_redo.proofs.Moments.{joined, weaker}
use Rattle.disk_redo.specs.Redo.{IsAtRest, is_open, stands_for}
use Rattle.disk_redo.specs.Opening.{IsOpening as IsRedoing}
use Rattle.replica_store.specs.Replicas.{ServerDisk, new_server_disk}
use Rattle.store_changes.specs.Areas.{area_of}
use Rattle.store_disk.specs.Formats.{IsFormatted, IsFormatting, is_head_open}
use Rattle.chunk_store.specs.Opening.{HoldsReplicas, IsOpening}
use Rattle.chunk_store.proofs.Kept.{formatted_holds}
use Rattle.store_disk.specs.Stored.{IsStored}

pub on_ok : {T E P : Type 0} (r : Result T E) → P → OnOk r P
on_ok (Ok x) p = p
on_ok (Err e) p = tt

module _ (chunk block slots : ℕ) (bytes : List ℕ) (d : ServerDisk) where
  pub open_holds : is_head_open bytes ≡ true → HoldsReplicas chunk block slots bytes d → IsStored chunk block slots (stands_for (area_of chunk block) bytes) d
  open_holds opened (inl none) = let e : true ≡ false = sym opened ∙ none.0 in absurd cc
  open_holds opened (inr some) = some.1

  pub closed_holds : is_head_open bytes ≡ false → HoldsReplicas chunk block slots bytes d → d ≡ new_server_disk chunk block slots
  closed_holds closed (inl none) = none.1
  closed_holds closed (inr some) = let e : true ≡ false = sym some.0 ∙ closed in absurd cc

module _ {D : Type 0} (seen : D → List ℕ) (may_leave : D → List ℕ → Type 0) (moment : D → ℕ) (left_since : D → ℕ → List ℕ → Type 0) (chunk block : ℕ) where
  -- a disk at rest that is read
  pub still_rests : (mid new : D) → IsAtRest seen may_leave (area_of chunk block) mid → OnlyReads seen may_leave moment left_since mid new → IsAtRest seen may_leave (area_of chunk block) new
  still_rests mid new rest reads = record {
    closed = ap (is_open (area_of chunk block)) reads.seen_same ∙ rest.closed;
    durable = λ c left. rest.durable c (reads.crash c left) ∙ sym reads.seen_same;
  }

  -- the change that was under way was made, and then the disk is read
  pub redoes_read : (old mid new : D) → stands_for (area_of chunk block) (seen mid) ≡ stands_for (area_of chunk block) (seen old) → Only (seen mid) (may_leave mid)
      → LeavesOnly moment left_since old mid (IsRedoing (area_of chunk block) (seen old) (may_leave old)) → OnlyReads seen may_leave moment left_since mid new
      → LeavesOnly moment left_since old new (IsRedoing (area_of chunk block) (seen old) (may_leave old))
  redoes_read old mid new same only first reads =
      joined moment left_since old mid new (IsRedoing (area_of chunk block) (seen old) (may_leave old)) (may_leave mid) (IsRedoing (area_of chunk block) (seen old) (may_leave old)) first reads.any_moment (λ c p. p)
      (λ c left. inr (ap (stands_for (area_of chunk block)) (only c left) ∙ same))

module _ {D : Type 0} (seen : D → List ℕ) (may_leave : D → List ℕ → Type 0) (moment : D → ℕ) (left_since : D → ℕ → List ℕ → Type 0) (chunk block slots : ℕ) where
  abbrev pub Opening : D → List ℕ → Type 0
  Opening old = IsOpening chunk block slots (seen old) (may_leave old)

  abbrev pub Redoing : D → List ℕ → Type 0
  Redoing old = IsRedoing (area_of chunk block) (seen old) (may_leave old)

  -- reads alone
  pub reads_open : (old new : D) → OnlyReads seen may_leave moment left_since old new → LeavesOnly moment left_since old new (Opening old)
  reads_open old new reads = weaker moment left_since old new (may_leave old) (Opening old) reads.any_moment (λ c left. inl left)

  -- a disk is formatted
  pub forms : (old new : D) → is_head_open (seen old) ≡ false → LeavesOnly moment left_since old new (IsFormatting chunk block slots) → LeavesOnly moment left_since old new (Opening old)
  forms old new closed run = weaker moment left_since old new (IsFormatting chunk block slots) (Opening old) run (λ c p. inr (inl (closed, p)))

  -- and opened
  pub forms_then : (old mid new : D) → is_head_open (seen old) ≡ false → Only (seen mid) (may_leave mid) → IsFormatted chunk block slots (seen mid)
      → LeavesOnly moment left_since old mid (IsFormatting chunk block slots) → LeavesOnly moment left_since mid new (Redoing mid) → LeavesOnly moment left_since old new (Opening old)
  forms_then old mid new closed only formed first second =
      joined moment left_since old mid new (IsFormatting chunk block slots) (Redoing mid) (Opening old) first second (λ c p. inr (inl (closed, p))) by
    where
      by : (c : List ℕ) → Redoing mid c → Opening old c
      by c (inl left) = inr (inl (closed, inr (subst (λ (l : List ℕ). IsFormatted chunk block slots l) (sym (only c left)) formed)))
      by c (inr same) = inr (inr (λ d holds.
          subst (λ (e : ServerDisk). IsStored chunk block slots (stands_for (area_of chunk block) c) e) (sym (closed_holds chunk block slots (seen old) d closed holds))
          (subst (λ (l : List ℕ). IsStored chunk block slots l (new_server_disk chunk block slots)) (sym same) (formatted_holds chunk block slots (seen mid) formed))))

  -- the head is read, and the change that was under way is made
  pub redoes : (old mid new : D) → is_head_open (seen old) ≡ true → OnlyReads seen may_leave moment left_since old mid → LeavesOnly moment left_since mid new (Redoing mid) → LeavesOnly moment left_since old new (Opening old)
  redoes old mid new opened reads second =
      joined moment left_since old mid new (may_leave old) (Redoing mid) (Opening old) reads.any_moment second (λ c left. inl left) by
    where
      by : (c : List ℕ) → Redoing mid c → Opening old c
      by c (inl left) = inl (reads.crash c left)
      by c (inr same) = inr (inr (λ d holds.
          subst (λ (l : List ℕ). IsStored chunk block slots l d) (sym (same ∙ ap (stands_for (area_of chunk block)) reads.seen_same)) (open_holds chunk block slots (seen old) d opened holds)))

  -- the head is read, and the disk is formatted and opened
  pub begins : (old mid new : D) → OnlyReads seen may_leave moment left_since old mid → LeavesOnly moment left_since mid new (Opening mid) → LeavesOnly moment left_since old new (Opening old)
  begins old mid new reads second =
      joined moment left_since old mid new (may_leave old) (Opening mid) (Opening old) reads.any_moment second (λ c left. inl left) by
    where
      by : (c : List ℕ) → Opening mid c → Opening old c
      by c (inl left) = inl (reads.crash c left)
      by c (inr (inl forming)) = inr (inl (sym (ap is_head_open reads.seen_same) ∙ forming.0, forming.1))
      by c (inr (inr so)) = inr (inr (λ d holds. so d (subst (λ (l : List ℕ). HoldsReplicas chunk block slots l d) (sym reads.seen_same) holds)))
