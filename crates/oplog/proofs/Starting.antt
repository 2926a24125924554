-- An opening begins.
use Rattle.std.proofs.Common.{◌≡◌, ℕ, List, inl, inr, ⊎_elim, arith}
use Rattle.disk.specs.Device.{Elapses, Forgets, NoMore}
use Rattle.disk_redo.specs.GateMoments.{OnlyReads}
use Rattle.disk_redo.proofs.Moments.{reads_both, reads_one}

module _ {D : Type 0} (seen : D → List ℕ) (may_leave : D → List ℕ → Type 0) (moment : D → ℕ) (left_since : D → ℕ → List ℕ → Type 0) where
  -- what was before is told no more
  forgot : (old new : D) → ((c : List ℕ) → left_since old (moment old) c → may_leave old c) → seen new ≡ seen old → NoMore (may_leave old) (may_leave new)
      → Forgets (moment old) (moment new) (left_since old) (left_since new) (may_leave new) → OnlyReads seen may_leave moment left_since old new
  forgot old new only_now same crash time = record {
    seen_same = same;
    crash = crash;
    any_moment = record {
      later = time.later;
      each = λ c left. ⊎_elim (only_now c) (crash c) (time.nothing_else (moment old) c (omega arith) left);
      before = λ t c le left. ⊎_elim (λ was. inl was) (λ now. inr (crash c now)) (time.nothing_else t c le left);
    };
  }

  -- and a sync follows
  pub settled : (old mid new : D) → ((d : D) (c : List ℕ) → left_since d (moment d) c → may_leave d c) → seen mid ≡ seen old → NoMore (may_leave old) (may_leave mid)
      → Forgets (moment old) (moment mid) (left_since old) (left_since mid) (may_leave mid) → seen new ≡ seen mid → NoMore (may_leave mid) (may_leave new)
      → Elapses (moment mid) (moment new) (left_since mid) (left_since new) (may_leave new) → OnlyReads seen may_leave moment left_since old new
  settled old mid new only_now same crash forgets same_after crash_after time =
      reads_both seen may_leave moment left_since old mid new (forgot old mid (only_now old) same crash forgets) (reads_one seen may_leave moment left_since mid new (only_now mid) same_after crash_after time)
