-- How a run of a disk's calls goes on.
use Rattle.std.proofs.Common.{◌≡◌, ◌⊎◌, inl, inr, ⊎_elim, ℕ, ◌+◌, ◌≤◌, Bool, true, List, arith, subst, sym}
use Rattle.disk.specs.Device.{ChangesOnly, Elapses, Follows, Forgets, NoMore, Only}
use Rattle.disk_redo.specs.GateMoments.{LeavesOnly, OnlyReads}
use Rattle.disk_redo.proofs.Moments.{goes_on, started, weaker}
use Rattle.disk_redo.specs.Moments.{ChangesBut, KeepsAt, Misses, is_outside}
use Rattle.disk_redo.proofs.Places.{changes_keep, keeps_all, keeps_fewer, keeps_then}

module _ {D : Type 0} (seen : D → List ℕ) (may_leave : D → List ℕ → Type 0) (moment : D → ℕ) (left_since : D → ℕ → List ℕ → Type 0) where
  -- before the first call
  pub begun : (kept : ℕ → Bool) (old : D) → ((c : List ℕ) → left_since old (moment old) c → may_leave old c) → ChangesBut seen may_leave moment left_since kept old old
  begun kept old only_now = record {
    read = keeps_all kept (seen old);
    stop = λ c left. (c, left, keeps_all kept c);
    moments = started moment left_since old _ (λ c left. (c, only_now c left, keeps_all kept c));
  }

  -- a write, whose range misses what is kept
  pub written_on : (kept : ℕ → Bool) (at n : ℕ) (start old new : D) → Misses kept at n
      → ChangesOnly at n (seen old) (seen new) → Follows (ChangesOnly at n) (may_leave old) (may_leave new)
      → Elapses (moment old) (moment new) (left_since old) (left_since new) (may_leave new)
      → ChangesBut seen may_leave moment left_since kept start old → ChangesBut seen may_leave moment left_since kept start new
  written_on kept at n start old new misses changes crash time so_far =
      let left : Follows (KeepsAt kept) (may_leave start) (may_leave new) = λ c now.
      let from = crash c now in
      let first = so_far.stop from.0 from.1 in
      (first.0, first.1, keeps_then kept first.0 from.0 c first.2 (keeps_fewer kept (is_outside at n) from.0 c misses (changes_keep at n from.0 c from.2))) in
      record {
        read = keeps_then kept (seen start) (seen old) (seen new) so_far.read (keeps_fewer kept (is_outside at n) (seen old) (seen new) misses (changes_keep at n (seen old) (seen new) changes));
        stop = left;
        moments = goes_on moment left_since start old new _ (may_leave new) so_far.moments time left;
      }

  -- what was before is told no more: nothing else happens
  pub reads_forgotten : (old new : D) → ((c : List ℕ) → left_since old (moment old) c → may_leave old c) → seen new ≡ seen old → NoMore (may_leave old) (may_leave new)
      → Forgets (moment old) (moment new) (left_since old) (left_since new) (may_leave new) → OnlyReads seen may_leave moment left_since old new
  reads_forgotten old new only_now same crash time = record {
    seen_same = same;
    crash = crash;
    any_moment = record {
      later = time.later;
      each = λ c left. ⊎_elim (only_now c) (crash c) (time.nothing_else (moment old) c (omega arith) left);
      before = λ t c le left. ⊎_elim (λ was. inl was) (λ now. inr (crash c now)) (time.nothing_else t c le left);
    };
  }

  -- and a run goes on
  pub forgot_on : (kept : ℕ → Bool) (start old new : D) → seen new ≡ seen old → NoMore (may_leave old) (may_leave new)
      → Forgets (moment old) (moment new) (left_since old) (left_since new) (may_leave new)
      → ChangesBut seen may_leave moment left_since kept start old → ChangesBut seen may_leave moment left_since kept start new
  forgot_on kept start old new same crash time so_far = record {
    read = subst (λ (l : List ℕ). KeepsAt kept (seen start) l) (sym same) so_far.read;
    stop = λ c now. so_far.stop c (crash c now);
    moments = record {
      later = omega (arith, so_far.moments.later, time.later);
      each = λ c left. ⊎_elim (so_far.moments.each c) (λ now. so_far.stop c (crash c now)) (time.nothing_else (moment start) c so_far.moments.later left);
      before = λ t c le left. ⊎_elim (so_far.moments.before t c le) (λ now. inr (so_far.stop c (crash c now))) (time.nothing_else t c (omega (arith, le, so_far.moments.later)) left);
    };
  }

  -- What a stop leaves during a run that began durable.
  pub held : (kept : ℕ → Bool) (P : List ℕ → Type 0) (old new : D) → Only (seen old) (may_leave old) → ((c : List ℕ) → KeepsAt kept (seen old) c → P c) → ChangesBut seen may_leave moment left_since kept old new
      → LeavesOnly moment left_since old new P
  held kept P old new only so run =
      weaker moment left_since old new _ P run.moments (λ c left. so c (subst (λ (l : List ℕ). KeepsAt kept l c) (only left.0 left.1) left.2))
