-- The counts of names, as some locks come or go.
use native.Mathlib.Omega.{arith}
use Rattle.std.proofs.Common.{◌≡◌, ℕ, zero, suc, ◌+◌, ◌-◌, ◌<◌, ◌≤◌, Bool, true, false, cond, ◌&&◌, List, [], ◌∷◌, ◌++◌, length, take, Option, Some, None, refl, sym, ap, ◌∙◌, subst, get_or}
use Rattle.std.specs.Prelude.{unwrap_or, IsSome, Result, Ok, Err, OnOk}
use Rattle.std.specs.Result.{is_err}
use Rattle.std.proofs.lemmas.List.{take_more, take_all}
use Rattle.std.specs.Ordering.{nat_cmp, is_eq}
use Rattle.std.specs.Cmp.Lexicographic.{slice_cmp}
use Rattle.std.specs.Str.{bytes_eq}
use Rattle.std.specs.BTreeMap.{get, Updates, WritesThrough}
use Rattle.std.proofs.lemmas.Map.Text.{is_eq-slice_cmp}
use Rattle.std.proofs.lemmas.Slice.Eq.{bytes_eq-Decides}
use Rattle.gfs_types.specs.Paths.{Path}
use Rattle.name_locks.specs.declared.lock_set.Mode.{Mode}
use Rattle.name_locks.specs.declared.lock_set.Mode.TheVariants.{Read, Write}
use Rattle.name_locks.specs.declared.lock_counts.LockCount.{LockCount}
use Rattle.name_locks.specs.Locks.{Lock}
use Rattle.name_locks.specs.LockCounts.{Counts, AddsAll, AreSame, TakesAll, count_of, counted, is_mode, locks_at, of_mode, one_less, one_more}

more_of : (own mode : Mode) (c : LockCount) → of_mode mode (one_more own c) ≡ cond (is_mode own mode) 1 0 + of_mode mode c
more_of Read Read c = omega arith
more_of Read Write c = omega arith
more_of Write Read c = omega arith
more_of Write Write c = omega arith

less_of : (own mode : Mode) (c : LockCount) → of_mode mode (one_less own c) ≡ of_mode mode c - cond (is_mode own mode) 1 0
less_of Read Read c = omega arith
less_of Read Write c = omega arith
less_of Write Read c = omega arith
less_of Write Write c = omega arith

-- what is counted at a name after its count was set
looked_up : (old new : Counts) (at name : Path) (w : Option LockCount) → Updates (slice_cmp nat_cmp) old new at w
    → count_of new name ≡ unwrap_or (cond (bytes_eq at name) w (get (slice_cmp nat_cmp) old name)) (record { read = 0; write = 0 })
looked_up old new at name w u =
    ap (λ (o : Option LockCount). unwrap_or o (record { read = 0; write = 0 })) (u.0 name ∙ ap (λ b. cond b w (get (slice_cmp nat_cmp) old name)) (is_eq-slice_cmp at name))

same_name : (a b : Path) → bytes_eq a b ≡ true → a ≡ b
same_name a b e = (bytes_eq-Decides a b).0 e

none_more : (n : ℕ) → n ≡ (0 + 0) + n
none_more n = omega arith

one_sum : (a n : ℕ) → a + n ≡ (a + 0) + n
one_sum a n = omega arith

pub counts_more : (old new : Counts) (lock : Lock) (more : LockCount) → more ≡ one_more lock.1 (count_of old lock.0)
    → Updates (slice_cmp nat_cmp) old new lock.0 (Some more) → AddsAll old new (lock ∷ [])
counts_more old new lock more is u name mode =
    ap (of_mode mode) (looked_up old new lock.0 name (Some more) u)
    ∙ elim (bytes_eq lock.0 name) as (λ b. bytes_eq lock.0 name ≡ b
    → of_mode mode (unwrap_or (cond b (Some more) (get (slice_cmp nat_cmp) old name)) (record { read = 0; write = 0 }))
    ≡ (cond (b && is_mode lock.1 mode) 1 0 + 0) + counted old name mode) [
      | true ↦ λ e.
          ap (of_mode mode) is ∙ more_of lock.1 mode (count_of old lock.0)
          ∙ ap (λ p. cond (is_mode lock.1 mode) 1 0 + counted old p mode) (same_name lock.0 name e)
          ∙ one_sum (cond (is_mode lock.1 mode) 1 0) (counted old name mode)
      | false ↦ λ e. none_more (counted old name mode)
    ] refl

none_less : (n : ℕ) → n ≡ n - (0 + 0)
none_less n = omega arith

one_off : (a n : ℕ) → n - a ≡ n - (a + 0)
one_off a n = omega arith

pub counts_less : (old new : Counts) (lock : Lock) (w : Option LockCount) → unwrap_or w (record { read = 0; write = 0 }) ≡ one_less lock.1 (count_of old lock.0)
    → Updates (slice_cmp nat_cmp) old new lock.0 w → TakesAll old new (lock ∷ [])
counts_less old new lock w is u name mode =
    ap (of_mode mode) (looked_up old new lock.0 name w u)
    ∙ elim (bytes_eq lock.0 name) as (λ b. bytes_eq lock.0 name ≡ b
    → of_mode mode (unwrap_or (cond b w (get (slice_cmp nat_cmp) old name)) (record { read = 0; write = 0 }))
    ≡ counted old name mode - (cond (b && is_mode lock.1 mode) 1 0 + 0)) [
      | true ↦ λ e.
          ap (of_mode mode) is ∙ less_of lock.1 mode (count_of old lock.0)
          ∙ ap (λ p. counted old p mode - cond (is_mode lock.1 mode) 1 0) (same_name lock.0 name e)
          ∙ one_off (cond (is_mode lock.1 mode) 1 0) (counted old name mode)
      | false ↦ λ e. none_less (counted old name mode)
    ] refl

-- the same, as the map's calls say it
pub counts_written : (old new : Counts) (lock : Lock) (more : LockCount) → more ≡ one_more lock.1 (count_of old lock.0)
    → WritesThrough (slice_cmp nat_cmp) (slice_cmp nat_cmp lock.0) old more new → IsSome (get (slice_cmp nat_cmp) old lock.0) → AddsAll old new (lock ∷ [])
counts_written old new lock more is w there = counts_more old new lock more is (w.3 there)

pub counts_gone : (old new : Counts) (lock : Lock) (left : LockCount) → left ≡ one_less lock.1 (count_of old lock.0)
    → WritesThrough (slice_cmp nat_cmp) (slice_cmp nat_cmp lock.0) old left new → IsSome (get (slice_cmp nat_cmp) old lock.0) → TakesAll old new (lock ∷ [])
counts_gone old new lock left is w there = counts_less old new lock (Some left) is (w.3 there)

no_locks_left : (left : LockCount) → left.read ≡ 0 → left.write ≡ 0 → record { read = 0; write = 0 } ≡ left
no_locks_left left r w = ap (λ n. record { read = 0; write = n }) (sym w) ∙ ap (λ n. record { read = n; write = left.write }) (sym r)

pub counts_cleared : (old new : Counts) (lock : Lock) (left : LockCount) → left ≡ one_less lock.1 (count_of old lock.0) → left.read ≡ 0 → left.write ≡ 0
    → Updates (slice_cmp nat_cmp) old new lock.0 None → TakesAll old new (lock ∷ [])
counts_cleared old new lock left is r w u = counts_less old new lock None (no_locks_left left r w ∙ is) u

-- of a name without a count none is taken
pub counts_none : (old : Counts) (lock : Lock) → get (slice_cmp nat_cmp) old lock.0 ≡ None → TakesAll old old (lock ∷ [])
counts_none old lock none name mode =
    elim (bytes_eq lock.0 name) as (λ b. bytes_eq lock.0 name ≡ b → counted old name mode ≡ counted old name mode - (cond (b && is_mode lock.1 mode) 1 0 + 0)) [
      | true ↦ λ e.
          let zero_there : counted old name mode ≡ 0 =
          ap (λ p. counted old p mode) (sym (same_name lock.0 name e)) ∙ ap (λ (o : Option LockCount). of_mode mode (unwrap_or o (record { read = 0; write = 0 }))) none ∙ no_count mode in
          ap (λ n. n) zero_there ∙ sym (ap (λ n. n - (cond (is_mode lock.1 mode) 1 0 + 0)) zero_there ∙ no_less (cond (is_mode lock.1 mode) 1 0 + 0))
      | false ↦ λ e. none_less (counted old name mode)
    ] refl
  where
    no_count : (mode : Mode) → of_mode mode (record { read = 0; write = 0 }) ≡ 0
    no_count Read = refl
    no_count Write = refl

    no_less : (n : ℕ) → 0 - n ≡ 0
    no_less n = omega arith

-- One after another.

at_both : (xs ys : List Lock) (name : Path) (mode : Mode) → locks_at (xs ++ ys) name mode ≡ locks_at xs name mode + locks_at ys name mode
at_both [] ys name mode = zero_more (locks_at ys name mode)
  where
    zero_more : (n : ℕ) → n ≡ 0 + n
    zero_more n = omega arith
at_both (x ∷ xs) ys name mode =
    let one : ℕ = cond (bytes_eq x.0 name && is_mode x.1 mode) 1 0 in
    let rest : locks_at (xs ++ ys) name mode ≡ locks_at xs name mode + locks_at ys name mode = at_both xs ys name mode in
    ap (λ n. one + n) rest ∙ joined one (locks_at xs name mode) (locks_at ys name mode)
  where
    joined : (a b c : ℕ) → a + (b + c) ≡ (a + b) + c
    joined a b c = omega arith

sum_moved : (a b n : ℕ) → b + (a + n) ≡ (a + b) + n
sum_moved a b n = omega arith

taken_both : (a b n : ℕ) → (n - a) - b ≡ n - (a + b)
taken_both a b n = omega arith

added_behind : (first mid last : Counts) (before : List Lock) (lock : Lock) → AddsAll first mid before → AddsAll mid last (lock ∷ []) → AddsAll first last (before ++ lock ∷ [])
added_behind first mid last before lock so_far one name mode =
    one name mode ∙ ap (λ n. locks_at (lock ∷ []) name mode + n) (so_far name mode)
    ∙ sum_moved (locks_at before name mode) (locks_at (lock ∷ []) name mode) (counted first name mode)
    ∙ ap (λ n. n + counted first name mode) (sym (at_both before (lock ∷ []) name mode))

taken_behind : (first mid last : Counts) (before : List Lock) (lock : Lock) → TakesAll first mid before → TakesAll mid last (lock ∷ []) → TakesAll first last (before ++ lock ∷ [])
taken_behind first mid last before lock so_far one name mode =
    one name mode ∙ ap (λ n. n - locks_at (lock ∷ []) name mode) (so_far name mode)
    ∙ taken_both (locks_at before name mode) (locks_at (lock ∷ []) name mode) (counted first name mode)
    ∙ ap (λ n. counted first name mode - n) (sym (at_both before (lock ∷ []) name mode))

one_further : (locks : List Lock) (i : ℕ) (lock : Lock) → i < length locks → get_or locks i lock ≡ lock → take i locks ++ lock ∷ [] ≡ take (i + 1) locks
one_further locks i lock inside is = ap (λ (x : Lock). take i locks ++ x ∷ []) (sym is) ∙ sym (take_more locks i lock inside)

pub adds_none : (a : Counts) (locks : List Lock) → AddsAll a a (take 0 locks)
adds_none a [] name mode = omega arith
adds_none a (x ∷ locks) name mode = omega arith

pub adds_next : (first mid last : Counts) (locks : List Lock) (i : ℕ) (lock : Lock) → i < length locks → get_or locks i lock ≡ lock
    → AddsAll first mid (take i locks) → AddsAll mid last (lock ∷ []) → AddsAll first last (take (i + 1) locks)
adds_next first mid last locks i lock inside is so_far one =
    subst (λ (ls : List Lock). AddsAll first last ls) (one_further locks i lock inside is) (added_behind first mid last (take i locks) lock so_far one)

pub adds_whole : (first last : Counts) (locks : List Lock) (i : ℕ) → length locks ≤ i → AddsAll first last (take i locks) → AddsAll first last locks
adds_whole first last locks i past h = subst (λ (ls : List Lock). AddsAll first last ls) (take_all i locks past) h

pub takes_none : (a : Counts) (locks : List Lock) → TakesAll a a (take 0 locks)
takes_none a [] name mode = omega arith
takes_none a (x ∷ locks) name mode = omega arith

pub takes_next : (first mid last : Counts) (locks : List Lock) (i : ℕ) (lock : Lock) → i < length locks → get_or locks i lock ≡ lock
    → TakesAll first mid (take i locks) → TakesAll mid last (lock ∷ []) → TakesAll first last (take (i + 1) locks)
takes_next first mid last locks i lock inside is so_far one =
    subst (λ (ls : List Lock). TakesAll first last ls) (one_further locks i lock inside is) (taken_behind first mid last (take i locks) lock so_far one)

pub takes_whole : (first last : Counts) (locks : List Lock) (i : ℕ) → length locks ≤ i → TakesAll first last (take i locks) → TakesAll first last locks
takes_whole first last locks i past h = subst (λ (ls : List Lock). TakesAll first last ls) (take_all i locks past) h

less : (a b : ℕ) → (a + b) - a ≡ b
less a b = omega arith

-- what came goes again; the count at which it broke off is as it was
pub back_again : (first mid tried last : Counts) (before : List Lock) → AddsAll first mid before → AreSame mid tried → TakesAll tried last before → AreSame first last
back_again first mid tried last before adds same takes name mode =
    takes name mode ∙ ap (λ n. n - locks_at before name mode) (same name mode ∙ adds name mode) ∙ less (locks_at before name mode) (counted first name mode)

-- What a call answered.
pub if_no_err : {T E P : Type 0} (r : Result T E) → is_err r ≡ false → OnOk r P → P
if_no_err (Ok x) e h = h
if_no_err (Err x) e h = absurd (let both : true ≡ false = e in cc)
