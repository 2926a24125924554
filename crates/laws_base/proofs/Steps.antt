-- Lemmas on tests, tables and lists.
use Rattle.std.proofs.Common.{◌≡◌, ◌≢◌, ◌⊎◌, ℕ, zero, suc, ◌+◌, Bool, true, false, cond, List, [], ◌∷◌, ◌++◌, Option, Some, None, refl, sym, ap, ◌∙◌, inl, inr, arith}
use Rattle.std.specs.Prelude.{◌==◌, ◌||◌, count_by}
use Rattle.std.specs.List.{list_any}
use Rattle.std.specs.Ordering.{nat_cmp, eq_by_cmp}
use Rattle.std.specs.Cmp.{nat_cmp_total, unsigned_tied}
use Rattle.std.specs.FinMap as table
use Rattle.std.proofs.lemmas.Bool.{true≢false, eqb-true, eqb-false}
use Rattle.protocol.specs.Tables.{Table, removed_all, element_at, without_at}
use Rattle.std.proofs.lemmas.List.Sums.{sum_by-append}
use Rattle.protocol.specs.Choice.{picked, in_order}

pub on_cond : {A : Type 0} (P : A → Type 0) (b : Bool) (x y : A) → (b ≡ true → P x) → (b ≡ false → P y) → P (cond b x y)
on_cond P true x y f g = f refl
on_cond P false x y f g = g refl

pub none_some : {X : Type 0} {A : Type 0} (x : X) → None ≡ Some x → A
none_some x h = absurd (cc)

pub same_some : {X : Type 0} (x y : X) → Some x ≡ Some y → x ≡ y
same_some x y h = cc

pub put_cases : {X : Type 0} (t : Table X) (k : ℕ) (v : X) (q : ℕ) (x : X) → table.get (table.insert t k v) q ≡ Some x → ((q ≡ k) × (v ≡ x)) ⊎ (table.get t q ≡ Some x)
put_cases {X} t k v q x h = split (q == k) refl (sym (table.get-insert nat_cmp_total t k v q ∙ ap (λ b. cond b (Some v) (table.get t q)) (unsigned_tied q k)) ∙ h)
  where
    split : (b : Bool) → (q == k) ≡ b → cond b (Some v) (table.get t q) ≡ Some x → ((q ≡ k) × (v ≡ x)) ⊎ (table.get t q ≡ Some x)
    split true e g = inl (eqb-true q k e, cc)
    split false e g = inr g

-- what stands in a table after one number was put in
pub put_split : {X : Type 0} (t : Table X) (k : ℕ) (v : X) (q : ℕ) (x : X) → table.get (table.insert t k v) q ≡ Some x → ((q ≡ k) × (v ≡ x)) ⊎ ((q ≢ k) × (table.get t q ≡ Some x))
put_split {X} t k v q x h = split (q == k) refl (sym (table.get-insert nat_cmp_total t k v q ∙ ap (λ b. cond b (Some v) (table.get t q)) (unsigned_tied q k)) ∙ h)
  where
    split : (b : Bool) → (q == k) ≡ b → cond b (Some v) (table.get t q) ≡ Some x → ((q ≡ k) × (v ≡ x)) ⊎ ((q ≢ k) × (table.get t q ≡ Some x))
    split true e g = inl (eqb-true q k e, cc)
    split false e g = inr (eqb-false q k e, g)

pub kept_cases : {X : Type 0} (t : Table X) (k q : ℕ) (x : X) → table.get (table.remove t k) q ≡ Some x → table.get t q ≡ Some x
kept_cases {X} t k q x h = split (q == k) refl (sym (table.get-remove nat_cmp_total t k q ∙ ap (λ b. cond b None (table.get t q)) (unsigned_tied q k)) ∙ h)
  where
    split : (b : Bool) → (q == k) ≡ b → cond b None (table.get t q) ≡ Some x → table.get t q ≡ Some x
    split true e g = absurd (let none : None ≡ Some x = g in cc)
    split false e g = g

pub same_or_not : (a b : ℕ) → (a ≡ b) ⊎ (a ≡ b → ⊥)
same_or_not a b = by_test (a == b) refl
  where
    by_test : (t : Bool) → (a == b) ≡ t → (a ≡ b) ⊎ (a ≡ b → ⊥)
    by_test true e = inl (eqb-true a b e)
    by_test false e = inr (eqb-false a b e)

pub put_there : {X : Type 0} (t : Table X) (k : ℕ) (v : X) (q : ℕ) → q ≡ k → table.get (table.insert t k v) q ≡ Some v
put_there {X} t k v q same = split (q == k) refl (table.get-insert nat_cmp_total t k v q ∙ ap (λ b. cond b (Some v) (table.get t q)) (unsigned_tied q k))
  where
    split : (b : Bool) → (q == k) ≡ b → table.get (table.insert t k v) q ≡ cond b (Some v) (table.get t q) → table.get (table.insert t k v) q ≡ Some v
    split true e g = g
    split false e g = absurd (eqb-false q k e same)

pub put_other : {X : Type 0} (t : Table X) (k : ℕ) (v : X) (q : ℕ) → (q ≡ k → ⊥) → table.get (table.insert t k v) q ≡ table.get t q
put_other {X} t k v q other = split (q == k) refl (table.get-insert nat_cmp_total t k v q ∙ ap (λ b. cond b (Some v) (table.get t q)) (unsigned_tied q k))
  where
    split : (b : Bool) → (q == k) ≡ b → table.get (table.insert t k v) q ≡ cond b (Some v) (table.get t q) → table.get (table.insert t k v) q ≡ table.get t q
    split true e g = absurd (other (eqb-true q k e))
    split false e g = g

pub gone_there : {X : Type 0} (t : Table X) (k q : ℕ) → q ≡ k → table.get (table.remove t k) q ≡ None
gone_there {X} t k q same = split (q == k) refl (table.get-remove nat_cmp_total t k q ∙ ap (λ b. cond b None (table.get t q)) (unsigned_tied q k))
  where
    split : (b : Bool) → (q == k) ≡ b → table.get (table.remove t k) q ≡ cond b None (table.get t q) → table.get (table.remove t k) q ≡ None
    split true e g = g
    split false e g = absurd (eqb-false q k e same)

pub gone_other : {X : Type 0} (t : Table X) (k q : ℕ) → (q ≡ k → ⊥) → table.get (table.remove t k) q ≡ table.get t q
gone_other {X} t k q other = split (q == k) refl (table.get-remove nat_cmp_total t k q ∙ ap (λ b. cond b None (table.get t q)) (unsigned_tied q k))
  where
    split : (b : Bool) → (q == k) ≡ b → table.get (table.remove t k) q ≡ cond b None (table.get t q) → table.get (table.remove t k) q ≡ table.get t q
    split true e g = absurd (other (eqb-true q k e))
    split false e g = g

pub gone_split : {X : Type 0} (t : Table X) (k q : ℕ) (x : X) → table.get (table.remove t k) q ≡ Some x → (q ≡ k → ⊥) × (table.get t q ≡ Some x)
gone_split t k q x h = elim (same_or_not q k) [
  | inl same ↦ none_some x (sym (gone_there t k q same) ∙ h)
  | inr other ↦ (other, sym (gone_other t k q other) ∙ h)
]

-- what is left in a table without these numbers was there
pub removed_cases : {X : Type 0} (t : Table X) (ns : List ℕ) (q : ℕ) (x : X) → table.get (removed_all t ns) q ≡ Some x → table.get t q ≡ Some x
removed_cases t [] q x h = h
removed_cases t (n ∷ ns) q x h = kept_cases t n q x (removed_cases (table.remove t n) ns q x h)

-- a number that is taken out is gone
pub stays_gone : {X : Type 0} (t : Table X) (ns : List ℕ) (q : ℕ) → table.get t q ≡ None → table.get (removed_all t ns) q ≡ None
stays_gone {X} t ns q none = by_value (table.get (removed_all t ns) q) refl
  where
    by_value : (o : Option X) → table.get (removed_all t ns) q ≡ o → o ≡ None
    by_value None is = refl
    by_value (Some x) is = none_some x (sym none ∙ removed_cases t ns q x is)

pub now_gone : {X : Type 0} (t : Table X) (ns : List ℕ) (q : ℕ) → list_any (eq_by_cmp nat_cmp q) ns ≡ true → table.get (removed_all t ns) q ≡ None
now_gone t [] q h = absurd (true≢false (sym h))
now_gone t (n ∷ ns) q h = by_key (eq_by_cmp nat_cmp q n) refl (now_gone (table.remove t n) ns q) h
  where
    by_key : (b : Bool) → eq_by_cmp nat_cmp q n ≡ b → (list_any (eq_by_cmp nat_cmp q) ns ≡ true → table.get (removed_all (table.remove t n) ns) q ≡ None) → b || list_any (eq_by_cmp nat_cmp q) ns ≡ true
        → table.get (removed_all (table.remove t n) ns) q ≡ None
    by_key true is rest g = stays_gone (table.remove t n) ns q (table.get-remove nat_cmp_total t n q ∙ ap (λ (b : Bool). cond b None (table.get t q)) is)
    by_key false is rest g = rest g

-- 1 for true, else 0
abbrev pub tally : Bool → ℕ
tally b = cond b 1 0

pub count-cons : {X : Type 0} (f : X → Bool) (x : X) (xs : List X) → count_by f (x ∷ xs) ≡ cond (f x) 1 0 + count_by f xs
count-cons f x xs = let h = sum_by-append (λ y. cond (f y) 1 0) (x ∷ []) xs in omega (arith, h)

pub count-append : {X : Type 0} (f : X → Bool) (xs ys : List X) → count_by f (xs ++ ys) ≡ count_by f xs + count_by f ys
count-append f xs ys = sum_by-append (λ y. cond (f y) 1 0) xs ys

weight : {X : Type 0} → (X → Bool) → Option X → ℕ
weight f None = 0
weight f (Some x) = cond (f x) 1 0

count-taken : {X : Type 0} (f : X → Bool) (xs : List X) (n : ℕ) → weight f (element_at xs n) + count_by f (without_at xs n) ≡ count_by f xs
unfolding weight
count-taken f [] n = omega arith
count-taken f (x ∷ xs) zero = sym (count-cons f x xs)
count-taken f (x ∷ xs) (suc n) =
    let rest = count-taken f xs n in
    let less = count-cons f x (without_at xs n) in
    let whole = count-cons f x xs in
    omega (arith, rest, less, whole)

count-picked : {X : Type 0} (f : X → Bool) (o : Option X) (xs : List X) → count_by f (picked o xs) ≡ weight f o + count_by f xs
unfolding weight
count-picked f None xs = omega arith
count-picked f (Some x) xs = count-cons f x xs

-- the chosen order of a list changes no count
pub count-in_order : {X : Type 0} (f : X → Bool) (ns : List ℕ) (xs : List X) → count_by f (in_order ns xs) ≡ count_by f xs
count-in_order f [] xs = refl
count-in_order f (n ∷ ns) xs =
    let first = count-picked f (element_at xs n) (in_order ns (without_at xs n)) in
    let rest = count-in_order f ns (without_at xs n) in
    let whole = count-taken f xs n in
    omega (arith, first, rest, whole)
