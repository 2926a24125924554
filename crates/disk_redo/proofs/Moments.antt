-- How a run of device calls goes on.
use Rattle.std.proofs.Common.{◌≡◌, inl, inr, ⊎_elim, ℕ, List, refl, subst, ◌∙◌, arith}
use Rattle.disk.specs.Device.{ChangesOnly, Elapses, Follows, NoMore, Only}
use Rattle.disk_redo.specs.GateMoments.{LeavesOnly, OnlyReads}

module _ {D : Type 0} (moment : D → ℕ) (left_since : D → ℕ → List ℕ → Type 0) where
  -- before the first call
  pub started : (old : D) (P : List ℕ → Type 0) → ((c : List ℕ) → left_since old (moment old) c → P c) → LeavesOnly moment left_since old old P
  started old P here = record { later = omega arith; each = here; before = λ t c le left. inl left }

  -- one call more, after which a stop leaves what has P
  pub goes_on : (old mid new : D) (P may_leave : List ℕ → Type 0) → LeavesOnly moment left_since old mid P → Elapses (moment mid) (moment new) (left_since mid) (left_since new) may_leave
      → ((c : List ℕ) → may_leave c → P c) → LeavesOnly moment left_since old new P
  goes_on old mid new P may_leave so_far time here = record {
    later = omega (arith, so_far.later, time.later);
    each = λ c left. ⊎_elim (so_far.each c) (here c) (time.nothing_else (moment old) c so_far.later left);
    before = λ t c le left. ⊎_elim (so_far.before t c le) (λ now. inr (here c now)) (time.nothing_else t c (omega (arith, le, so_far.later)) left);
  }

  -- one run after another
  pub joined : (old mid new : D) (P Q R : List ℕ → Type 0) → LeavesOnly moment left_since old mid P → LeavesOnly moment left_since mid new Q
      → ((c : List ℕ) → P c → R c) → ((c : List ℕ) → Q c → R c) → LeavesOnly moment left_since old new R
  joined old mid new P Q R first second from_first from_second = record {
    later = omega (arith, first.later, second.later);
    each = λ c left. ⊎_elim (λ was. from_first c (first.each c was)) (λ now. from_second c now) (second.before (moment old) c first.later left);
    before = λ t c le left. ⊎_elim (λ was. ⊎_elim (λ earlier. inl earlier) (λ p. inr (from_first c p)) (first.before t c le was)) (λ now. inr (from_second c now)) (second.before t c (omega (arith, le, first.later)) left);
  }

  pub weaker : (old new : D) (P R : List ℕ → Type 0) → LeavesOnly moment left_since old new P → ((c : List ℕ) → P c → R c) → LeavesOnly moment left_since old new R
  weaker old new P R run from = record {
    later = run.later;
    each = λ c left. from c (run.each c left);
    before = λ t c le left. ⊎_elim (λ was. inl was) (λ p. inr (from c p)) (run.before t c le left);
  }

pub same_changes : (at n : ℕ) (old : List ℕ) → ChangesOnly at n old old
same_changes at n old = record { before = refl; after = refl; size = refl }

-- after a write on a disk that was synced
pub torn : (at n : ℕ) (old : List ℕ) (may_leave left : List ℕ → Type 0) → Only old may_leave → Follows (ChangesOnly at n) may_leave left → (c : List ℕ) → left c → ChangesOnly at n old c
torn at n old may_leave left only follows c now =
    let from = follows c now in
    subst (λ d. ChangesOnly at n d c) (only from.0 from.1) from.2

module _ {D : Type 0} (seen : D → List ℕ) (may_leave : D → List ℕ → Type 0) (moment : D → ℕ) (left_since : D → ℕ → List ℕ → Type 0) where
  pub reads_nothing : (old : D) → ((c : List ℕ) → left_since old (moment old) c → may_leave old c) → OnlyReads seen may_leave moment left_since old old
  reads_nothing old only_now = record { seen_same = refl; crash = λ c left. left; any_moment = started moment left_since old (may_leave old) only_now }

  pub reads_one : (old new : D) → ((c : List ℕ) → left_since old (moment old) c → may_leave old c) → seen new ≡ seen old → NoMore (may_leave old) (may_leave new)
      → Elapses (moment old) (moment new) (left_since old) (left_since new) (may_leave new) → OnlyReads seen may_leave moment left_since old new
  reads_one old new only_now same crash time = record {
    seen_same = same;
    crash = crash;
    any_moment = goes_on moment left_since old old new (may_leave old) (may_leave new) (started moment left_since old (may_leave old) only_now) time crash;
  }

  pub reads_both : (old mid new : D) → OnlyReads seen may_leave moment left_since old mid → OnlyReads seen may_leave moment left_since mid new → OnlyReads seen may_leave moment left_since old new
  reads_both old mid new first second = record {
    seen_same = second.seen_same ∙ first.seen_same;
    crash = λ c left. first.crash c (second.crash c left);
    any_moment = joined moment left_since old mid new (may_leave old) (may_leave mid) (may_leave old) first.any_moment second.any_moment (λ c left. left) first.crash;
  }
