-- What stands at the places of a list.
use Rattle.std.proofs.Common.{◌≡◌, ℕ, zero, suc, ◌+◌, ◌<◌, ◌≤◌, Bool, true, false, List, [], ◌∷◌, ◌++◌, length, get_or, set, Some, None, refl, sym, ap, subst, ◌∙◌, arith}
use Rattle.std.specs.Prelude.{slice_get, nat_lt}
use Rattle.std.proofs.lemmas.Bool.Decides.{nat_tests}
use Rattle.std.proofs.lemmas.Option.{slice_get-get_or, slice_get_within}

-- the one that stands at a place
pub there : {X Y : Type 0} (xs : List X) (ys : List Y) (k : ℕ) (y : Y) → length xs ≡ length ys → slice_get ys k ≡ Some y → (x : X) × (slice_get xs k ≡ Some x)
there xs [] k y same at = absurd (let none : None ≡ Some y = at in cc)
there [] (y' ∷ ys) k y same at = absurd (omega (arith, same))
there (x ∷ xs) (y' ∷ ys) zero y same at = (x, refl)
there (x ∷ xs) (y' ∷ ys) (suc k) y same at = there xs ys k y (let e : length xs ≡ length ys = omega (arith, same) in e) at

-- an element that was read
pub read_at : {X : Type 0} (xs : List X) (k : ℕ) (x : X) → k < length xs → x ≡ get_or xs k x → slice_get xs k ≡ Some x
read_at {X} xs k x within at = slice_get-get_or xs k x within ∙ ap (λ (y : X). Some y) (sym at)

-- one element was written
pub set_here : {X : Type 0} (xs : List X) (k : ℕ) (x : X) → k < length xs → slice_get (set xs k x) k ≡ Some x
set_here [] k x within = absurd (omega (arith, within))
set_here (y ∷ ys) zero x within = refl
set_here (y ∷ ys) (suc k) x within = set_here ys k x (let e : k < length ys = omega (arith, within) in e)

pub set_there : {X : Type 0} (xs : List X) (k j : ℕ) (x : X) → (j ≡ k → ⊥) → slice_get (set xs k x) j ≡ slice_get xs j
set_there [] k j x apart = refl
set_there (y ∷ ys) zero zero x apart = absurd (apart refl)
set_there (y ∷ ys) zero (suc j) x apart = refl
set_there (y ∷ ys) (suc k) zero x apart = refl
set_there (y ∷ ys) (suc k) (suc j) x apart = set_there ys k j x (λ same. apart (ap (λ (n : ℕ). suc n) same))

-- one element more at the end
pub more_at : {X : Type 0} (Holds : ℕ → X → Type 0) (xs : List X) (x : X) → ((k : ℕ) (y : X) → slice_get xs k ≡ Some y → Holds k y) → Holds (length xs) x → (k : ℕ) (y : X) → slice_get (xs ++ x ∷ []) k ≡ Some y → Holds k y
more_at Holds [] x all one zero y at = subst (Holds zero) (let both : Some x ≡ Some y = at in cc) one
more_at Holds [] x all one (suc k) y at = absurd (let none : None ≡ Some y = at in cc)
more_at Holds (z ∷ zs) x all one zero y at = all zero y at
more_at Holds (z ∷ zs) x all one (suc k) y at = more_at (λ i w. Holds (suc i) w) zs x (λ i w to. all (suc i) w to) one k y at

pub none_at : {X : Type 0} (Holds : ℕ → X → Type 0) (xs : List X) → xs ≡ [] → (k : ℕ) (x : X) → slice_get xs k ≡ Some x → Holds k x
none_at {X} Holds xs is k x at = absurd (let none : None ≡ Some x = sym (ap (λ (l : List X). slice_get l k) is) ∙ at in cc)

-- the first ones, and one more of them
pub first_more : {X : Type 0} (Holds : ℕ → X → Type 0) (xs : List X) (n : ℕ) (x : X) → n < length xs → x ≡ get_or xs n x → ((k : ℕ) (y : X) → k < n → slice_get xs k ≡ Some y → Holds k y) → Holds n x
    → (k : ℕ) (y : X) → k < n + 1 → slice_get xs k ≡ Some y → Holds k y
first_more {X} Holds xs n x within at all one k y before here = by_place (nat_lt k n) refl
  where
    by_place : (b : Bool) → nat_lt k n ≡ b → Holds k y
    by_place true less = all k y (let e : k < n = grind (arith, nat_tests, less) in e) here
    by_place false past =
        let same : k ≡ n = grind (arith, nat_tests, past, before) in
        let found : Some x ≡ Some y = sym (read_at xs n x within at) ∙ (ap (slice_get xs) (sym same) ∙ here) in
        subst (λ (m : ℕ). Holds m y) (sym same) (subst (Holds n) (let e : x ≡ y = cc found in e) one)

pub first_none : {X : Type 0} (Holds : ℕ → X → Type 0) (xs : List X) (n : ℕ) → n ≡ 0 → (k : ℕ) (x : X) → k < n → slice_get xs k ≡ Some x → Holds k x
first_none Holds xs n is k x before here = absurd (omega (arith, is, before))

pub first_all : {X : Type 0} (Holds : ℕ → X → Type 0) (xs : List X) (n : ℕ) → length xs ≤ n → ((k : ℕ) (x : X) → k < n → slice_get xs k ≡ Some x → Holds k x) → (k : ℕ) (x : X) → slice_get xs k ≡ Some x → Holds k x
first_all Holds xs n past all k x here = all k x (let w : k < length xs = slice_get_within xs k x here in omega (arith, past, w)) here
