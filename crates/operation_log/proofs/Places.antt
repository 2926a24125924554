-- The element at a place of two lists, one behind the other.
use Rattle.std.proofs.Common.{◌≡◌, ℕ, zero, suc, ◌-◌, ◌<◌, ◌≤◌, List, [], ◌∷◌, ◌++◌, length, refl, ap, ◌∙◌, arith}
use Rattle.std.specs.Prelude.{slice_get}

pub get_in_first : {X : Type 0} (xs ys : List X) (i : ℕ) → i < length xs → slice_get (xs ++ ys) i ≡ slice_get xs i
get_in_first [] ys i l = absurd (omega (arith, l))
get_in_first (x ∷ xs) ys zero l = refl
get_in_first (x ∷ xs) ys (suc i) l = get_in_first xs ys i (omega (arith, l))

pub get_in_second : {X : Type 0} (xs ys : List X) (i : ℕ) → length xs ≤ i → slice_get (xs ++ ys) i ≡ slice_get ys (i - length xs)
get_in_second [] ys i l = let same : i ≡ i - 0 = omega arith in ap (slice_get ys) same
get_in_second (x ∷ xs) ys zero l = absurd (omega (arith, l))
get_in_second (x ∷ xs) ys (suc i) l = let same : i - length xs ≡ suc i - suc (length xs) = omega arith in get_in_second xs ys i (omega (arith, l)) ∙ ap (slice_get ys) same
