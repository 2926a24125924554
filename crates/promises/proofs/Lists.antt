-- Lists that are cut at an element.
use Rattle.std.proofs.Common.{◌≡◌, ℕ, zero, suc, ◌<◌, ◌⊎◌, List, [], ◌∷◌, ◌++◌, length, Some, refl, sym, ap, inl, inr, arith}
use Rattle.std.specs.Prelude.{Contains, slice_get}
use Rattle.std.proofs.lemmas.Option.{none-some}
use Rattle.relaxed_file.proofs.Tables.{from_some}

pub in_first : {A : Type 0} (x : A) (xs : List A) → Contains (x ∷ xs) x
in_first x xs = (0, omega arith, refl)

pub in_rest : {A : Type 0} (x y : A) (xs : List A) → Contains xs y → Contains (x ∷ xs) y
in_rest x y xs there = (suc there.0, omega (arith, there.1), there.2)

pub in_cases : {A : Type 0} (x y : A) (xs : List A) → Contains (x ∷ xs) y → (x ≡ y) ⊎ Contains xs y
in_cases x y xs (zero, l, is) = inl is
in_cases x y xs (suc k, l, is) = inr (k, omega (arith, l), is)

pub in_front : {A : Type 0} (xs ys : List A) (y : A) → Contains xs y → Contains (xs ++ ys) y
in_front [] ys y (k, l, is) = absurd (omega (arith, l))
in_front (x ∷ xs) ys y (zero, l, is) = (zero, omega arith, is)
in_front (x ∷ xs) ys y (suc k, l, is) = in_rest x y (xs ++ ys) (in_front xs ys y (k, omega (arith, l), is))

pub in_back : {A : Type 0} (xs ys : List A) (y : A) → Contains ys y → Contains (xs ++ ys) y
in_back [] ys y there = there
in_back (x ∷ xs) ys y there = in_rest x y (xs ++ ys) (in_back xs ys y there)

pub parts_of : {A : Type 0} (x y : A) (xs ys : List A) → x ∷ xs ≡ y ∷ ys → (x ≡ y) × (xs ≡ ys)
parts_of {A = A} x y xs ys h = (
  ap (λ (t : List A). elim t as (λ s. A) [ [] ↦ x | z ∷ zs ↦ z ]) h,
  ap (λ (t : List A). elim t as (λ s. List A) [ [] ↦ xs | z ∷ zs ↦ zs ]) h,
)

-- a list that is cut at two places
pub later_part : {A : Type 0} (a c b d : List A) (v w : A) → a ++ v ∷ b ≡ c ++ w ∷ d → length a < length c
    → (mid : List A) × (c ≡ a ++ v ∷ mid) × (b ≡ mid ++ w ∷ d)
later_part [] [] b d v w h l = absurd (omega (arith, l))
later_part [] (y ∷ c) b d v w h l = let heads = parts_of v y b (c ++ w ∷ d) h in (c, (λ i. (sym heads.0) i ∷ c), heads.1)
later_part (x ∷ a) [] b d v w h l = absurd (omega (arith, l))
later_part (x ∷ a) (y ∷ c) b d v w h l =
    let heads = parts_of x y (a ++ v ∷ b) (c ++ w ∷ d) h in
    let more = later_part a c b d v w heads.1 (omega (arith, l)) in
    (more.0, (λ i. (sym heads.0) i ∷ more.1 i), more.2)

-- a list that is cut at an element of it
pub parted : {A : Type 0} (xs : List A) (k : ℕ) (e : A) → slice_get xs k ≡ Some e → (before : List A) × (later : List A) × (xs ≡ before ++ e ∷ later) × (length before ≡ k)
parted [] k e is = absurd (none-some e is)
parted (x ∷ xs) zero e is = ([], xs, (λ i. from_some is i ∷ xs), refl)
parted (x ∷ xs) (suc k) e is = let more = parted xs k e is in (x ∷ more.0, more.1, (λ i. x ∷ more.2 i), ap suc more.3)

pub at_length : {A : Type 0} (before : List A) (e : A) (later : List A) → slice_get (before ++ e ∷ later) (length before) ≡ Some e
at_length [] e later = refl
at_length (x ∷ before) e later = at_length before e later
