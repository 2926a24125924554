-- The counts of names, beside the sets that are taken.
use native.Mathlib.Omega.{arith}
use Rattle.std.proofs.Common.{◌≡◌, ◌≢◌, ℕ, zero, suc, ◌+◌, ◌-◌, Bool, true, false, cond, ltb, ◌&&◌, ◌||◌, List, [], ◌∷◌, Option, Some, None, slice_index_or, refl, sym, ap, ◌∙◌}
use Rattle.std.specs.List.{list_any}
use Rattle.std.specs.Str.{bytes_eq}
use Rattle.std.proofs.lemmas.Bool.Decides.{nat_tests}
use Rattle.gfs_types.specs.Paths.{Path}
use Rattle.name_locks.specs.declared.lock_set.Mode.{Mode}
use Rattle.name_locks.specs.declared.lock_set.Mode.TheVariants.{Read, Write}
use Rattle.name_locks.specs.Locks.{Lock, Table, Changes, clash, has_conflict, held_by, is_write, sets_clash, taken}
use Rattle.name_locks.specs.LockCounts.{Counts, AddsAll, AreCounted, AreSame, TakesAll, counted, is_blocked, is_mode, locks_at, sets_at}

-- Any of two lists.

none_any : {X : Type 0} (xs : List X) → list_any (λ x. false) xs ≡ false
none_any [] = refl
none_any (x ∷ xs) = none_any xs

either_first : (a b c d : Bool) → (a || b) || (c || d) ≡ (a || c) || (b || d)
either_first true b c d = refl
either_first false true true d = refl
either_first false true false d = refl
either_first false false c d = refl

any_or : {X : Type 0} (p q : X → Bool) (xs : List X) → list_any (λ x. p x || q x) xs ≡ list_any p xs || list_any q xs
any_or p q [] = refl
any_or p q (x ∷ xs) = ap (λ b. (p x || q x) || b) (any_or p q xs) ∙ either_first (p x) (q x) (list_any p xs) (list_any q xs)

any_same : {X : Type 0} (p q : X → Bool) → ((x : X) → p x ≡ q x) → (xs : List X) → list_any p xs ≡ list_any q xs
any_same p q same [] = refl
any_same p q same (x ∷ xs) = ap (λ b. b || list_any p xs) (same x) ∙ ap (λ b. q x || b) (any_same p q same xs)

any_swapped : {X Y : Type 0} (p : X → Y → Bool) (xs : List X) (ys : List Y) → list_any (λ y. list_any (λ x. p x y) xs) ys ≡ list_any (λ x. list_any (λ y. p x y) ys) xs
any_swapped p xs [] = sym (none_any xs)
any_swapped p xs (y ∷ ys) =
    ap (λ b. list_any (λ x. p x y) xs || b) (any_swapped p xs ys) ∙ sym (any_or (λ x. p x y) (λ x. list_any (λ z. p x z) ys) xs)

-- What is counted conflicts just where a lock does.

more_than_none : (a b : ℕ) → ltb 0 (a + b) ≡ ltb 0 a || ltb 0 b
more_than_none a b = elim (ltb 0 a) as (λ x. ltb 0 a ≡ x → ltb 0 (a + b) ≡ x || ltb 0 b) [
  | true ↦ λ e. grind (arith, nat_tests)
  | false ↦ λ e. let none : a + b ≡ b = grind (arith, nat_tests) in ap (λ n. ltb 0 n) none
] refl

one_or_none : (b : Bool) → ltb 0 (cond b 1 0) ≡ b
one_or_none true = refl
one_or_none false = refl

one_clash : (same wants : Bool) (mode : Mode) → (same && is_mode mode Write) || (wants && (same && is_mode mode Read)) ≡ same && (is_write mode || wants)
one_clash true true Read = refl
one_clash true true Write = refl
one_clash true false Read = refl
one_clash true false Write = refl
one_clash false true Read = refl
one_clash false true Write = refl
one_clash false false Read = refl
one_clash false false Write = refl

parted : (a b c d w : Bool) → (a || b) || (w && (c || d)) ≡ (a || (w && c)) || (b || (w && d))
parted true b c d w = refl
parted false true true d true = refl
parted false true false d true = refl
parted false true c d false = refl
parted false false c d true = refl
parted false false c d false = refl

locks_block : (locks : List Lock) (name : Path) (wants : Bool)
    → ltb 0 (locks_at locks name Write) || (wants && ltb 0 (locks_at locks name Read)) ≡ list_any (λ (a : Lock). bytes_eq a.0 name && (is_write a.1 || wants)) locks
locks_block [] name true = refl
locks_block [] name false = refl
locks_block (a ∷ locks) name wants =
    let w : Bool = bytes_eq a.0 name && is_mode a.1 Write in
    let r : Bool = bytes_eq a.0 name && is_mode a.1 Read in
    let ws : ℕ = locks_at locks name Write in
    let rs : ℕ = locks_at locks name Read in
    ap (λ b. b || (wants && ltb 0 (cond r 1 0 + rs))) (more_than_none (cond w 1 0) ws ∙ ap (λ b. b || ltb 0 ws) (one_or_none w))
    ∙ ap (λ b. (w || ltb 0 ws) || (wants && b)) (more_than_none (cond r 1 0) rs ∙ ap (λ b. b || ltb 0 rs) (one_or_none r))
    ∙ parted w (ltb 0 ws) r (ltb 0 rs) wants
    ∙ ap (λ b. b || (ltb 0 ws || (wants && ltb 0 rs))) (one_clash (bytes_eq a.0 name) wants a.1)
    ∙ ap (λ b. (bytes_eq a.0 name && (is_write a.1 || wants)) || b) (locks_block locks name wants)

sets_block : (sets : List (List Lock)) (name : Path) (wants : Bool)
    → ltb 0 (sets_at sets name Write) || (wants && ltb 0 (sets_at sets name Read))
    ≡ list_any (λ held. list_any (λ (a : Lock). bytes_eq a.0 name && (is_write a.1 || wants)) held) sets
sets_block [] name true = refl
sets_block [] name false = refl
sets_block (set ∷ sets) name wants =
    let ws : ℕ = sets_at sets name Write in
    let rs : ℕ = sets_at sets name Read in
    ap (λ b. b || (wants && ltb 0 (locks_at set name Read + rs))) (more_than_none (locks_at set name Write) ws)
    ∙ ap (λ b. (ltb 0 (locks_at set name Write) || ltb 0 ws) || (wants && b)) (more_than_none (locks_at set name Read) rs)
    ∙ parted (ltb 0 (locks_at set name Write)) (ltb 0 ws) (ltb 0 (locks_at set name Read)) (ltb 0 rs) wants
    ∙ ap (λ b. b || (ltb 0 ws || (wants && ltb 0 rs))) (locks_block set name wants)
    ∙ ap (λ b. list_any (λ (a : Lock). bytes_eq a.0 name && (is_write a.1 || wants)) set || b) (sets_block sets name wants)

blocked_is : (table : Table) (counts : Counts) → AreCounted table counts → (lock : Lock)
    → is_blocked counts lock ≡ list_any (λ held. list_any (λ a. clash a lock) held) (taken table)
blocked_is table counts h lock =
    ap (λ n. ltb 0 n || (is_write lock.1 && ltb 0 (counted counts lock.0 Read))) (h lock.0 Write)
    ∙ ap (λ n. ltb 0 (sets_at (taken table) lock.0 Write) || (is_write lock.1 && ltb 0 n)) (h lock.0 Read)
    ∙ sets_block (taken table) lock.0 (is_write lock.1)

pub conflicts_are : (table : Table) (counts : Counts) (wanted : List Lock) → AreCounted table counts → list_any (λ lock. is_blocked counts lock) wanted ≡ has_conflict table wanted
conflicts_are table counts wanted h =
    any_same (λ lock. is_blocked counts lock) (λ lock. list_any (λ held. list_any (λ a. clash a lock) held) (taken table)) (blocked_is table counts h) wanted
    ∙ any_swapped (λ held lock. list_any (λ a. clash a lock) held) (taken table) wanted
    ∙ any_same (λ held. list_any (λ lock. list_any (λ a. clash a lock) held) wanted) (λ held. sets_clash held wanted) (λ held. any_swapped clash held wanted) (taken table)

-- The sets that are taken, as one comes or goes.

no_sets : (table : Table) (name : Path) (mode : Mode) → ((n : ℕ) → held_by table n ≡ None) → sets_at (taken table) name mode ≡ 0
no_sets [] name mode none = refl
no_sets (None ∷ table) name mode none = no_sets table name mode (λ n. none (suc n))
no_sets (Some set ∷ table) name mode none = absurd (let no : Some set ≡ None = none 0 in cc)

nothing : (n : ℕ) → held_by [] n ≡ None
nothing zero = refl
nothing (suc n) = refl

first_same : (x : Option (List Lock)) (old new : Table) (name : Path) (mode : Mode) → sets_at (taken new) name mode ≡ sets_at (taken old) name mode
    → sets_at (taken (x ∷ new)) name mode ≡ sets_at (taken (x ∷ old)) name mode
first_same None old new name mode rest = rest
first_same (Some set) old new name mode rest = ap (λ n. locks_at set name mode + n) rest

same_sets : (old new : Table) (name : Path) (mode : Mode) → ((n : ℕ) → held_by new n ≡ held_by old n) → sets_at (taken new) name mode ≡ sets_at (taken old) name mode
same_sets [] new name mode same = no_sets new name mode (λ n. same n ∙ nothing n)
same_sets (o ∷ old) [] name mode same = sym (no_sets (o ∷ old) name mode (λ n. sym (same n) ∙ nothing n))
same_sets (o ∷ old) (n ∷ new) name mode same =
    ap (λ x. sets_at (taken (x ∷ new)) name mode) (same 0) ∙ first_same o old new name mode (same_sets old new name mode (λ k. same (suc k)))

added : (a b c : ℕ) → a + (b + c) ≡ b + (a + c)
added a b c = omega arith

first_put : (x : Option (List Lock)) (old new : Table) (set : List Lock) (name : Path) (mode : Mode) → sets_at (taken new) name mode ≡ locks_at set name mode + sets_at (taken old) name mode
    → sets_at (taken (x ∷ new)) name mode ≡ locks_at set name mode + sets_at (taken (x ∷ old)) name mode
first_put None old new set name mode rest = rest
first_put (Some first) old new set name mode rest =
    ap (λ k. locks_at first name mode + k) rest ∙ added (locks_at first name mode) (locks_at set name mode) (sets_at (taken old) name mode)

pub put_set : (old new : Table) (ticket : ℕ) (set : List Lock) (name : Path) (mode : Mode) → held_by old ticket ≡ None → held_by new ticket ≡ Some set
    → ((other : ℕ) → other ≢ ticket → held_by new other ≡ held_by old other) → sets_at (taken new) name mode ≡ locks_at set name mode + sets_at (taken old) name mode
put_set old [] zero set name mode free own others = absurd (let no : None ≡ Some set = own in cc)
put_set old [] (suc t) set name mode free own others = absurd (let no : None ≡ Some set = own in cc)
put_set [] (n ∷ new) zero set name mode free own others =
    ap (λ x. sets_at (taken (x ∷ new)) name mode) own
    ∙ ap (λ k. locks_at set name mode + k) (no_sets new name mode (λ k. others (suc k) (λ e. absurd (omega (arith, e)))))
put_set [] (n ∷ new) (suc t) set name mode free own others =
    ap (λ x. sets_at (taken (x ∷ new)) name mode) (others 0 (λ e. absurd (omega (arith, e))))
    ∙ put_set [] new t set name mode (nothing t) own (λ k apart. others (suc k) (λ e. apart (omega (arith, e))) ∙ sym (nothing k))
put_set (o ∷ old) (n ∷ new) zero set name mode free own others =
    ap (λ x. sets_at (taken (x ∷ new)) name mode) own
    ∙ ap (λ k. locks_at set name mode + k) (same_sets old new name mode (λ k. others (suc k) (λ e. absurd (omega (arith, e)))))
    ∙ sym (ap (λ x. locks_at set name mode + sets_at (taken (x ∷ old)) name mode) free)
put_set (o ∷ old) (n ∷ new) (suc t) set name mode free own others =
    ap (λ x. sets_at (taken (x ∷ new)) name mode) (others 0 (λ e. absurd (omega (arith, e))))
    ∙ first_put o old new set name mode (put_set old new t set name mode free own (λ k apart. others (suc k) (λ e. apart (omega (arith, e)))))

pub put_counts : (old new : Table) (counts after : Counts) (ticket : ℕ) (set : List Lock) → held_by old ticket ≡ None → Changes old new ticket (Some set)
    → AddsAll counts after set → AreCounted old counts → AreCounted new after
put_counts old new counts after ticket set free changes adds h name mode =
    adds name mode ∙ ap (λ n. locks_at set name mode + n) (h name mode) ∙ sym (put_set old new ticket set name mode free changes.changed changes.others)

less : (a b : ℕ) → (a + b) - a ≡ b
less a b = omega arith

pub gone_counts : (old new : Table) (counts after : Counts) (ticket : ℕ) (set : List Lock) → held_by old ticket ≡ Some set → Changes old new ticket None
    → TakesAll counts after set → AreCounted old counts → AreCounted new after
gone_counts old new counts after ticket set own changes takes h name mode =
    takes name mode
    ∙ ap (λ n. n - locks_at set name mode)
    (h name mode ∙ put_set new old ticket set name mode changes.changed own (λ other apart. sym (changes.others other apart)))
    ∙ less (locks_at set name mode) (sets_at (taken new) name mode)

pub same_counts : (table : Table) (counts after : Counts) → AreSame counts after → AreCounted table counts → AreCounted table after
same_counts table counts after same h name mode = same name mode ∙ h name mode
