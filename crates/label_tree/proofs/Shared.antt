-- How far two lists of bytes agree.
use Rattle.std.proofs.Common.{◌≡◌, ◌≢◌, ℕ, zero, suc, ◌+◌, ◌≤◌, ◌<◌, Bool, true, false, cond, ◌==◌, List, [], ◌∷◌, ◌++◌, take, drop, length, get_or, refl, sym, ap, ◌∙◌, arith}
use Rattle.std.proofs.lemmas.Bool.Decides.{nat_tests}
use Rattle.label_tree.specs.Fronts.{shared}

same_test : (x y : ℕ) → x ≡ y → (x == y) ≡ true
same_test x y e = grind (arith, nat_tests)

other_test : (x y : ℕ) → x ≢ y → (x == y) ≡ false
other_test x y d = grind (arith, nat_tests)

-- one byte further, and where the bytes differ
pub further : (s : ℕ) (l p : List ℕ) → s < length l → s < length p → get_or l s 0 ≡ get_or p s 0 → shared (drop s l) (drop s p) ≡ suc (shared (drop (suc s) l) (drop (suc s) p))
further s [] p a b e = absurd (omega arith)
further s (x ∷ l) [] a b e = absurd (omega arith)
further zero (x ∷ l) (y ∷ p) a b e = ap (λ t. cond t (suc (shared l p)) 0) (same_test x y e)
further (suc s) (x ∷ l) (y ∷ p) a b e = further s l p (omega arith) (omega arith) e

pub stops : (s : ℕ) (l p : List ℕ) → s < length l → s < length p → get_or l s 0 ≢ get_or p s 0 → shared (drop s l) (drop s p) ≡ 0
stops s [] p a b d = absurd (omega arith)
stops s (x ∷ l) [] a b d = absurd (omega arith)
stops zero (x ∷ l) (y ∷ p) a b d = ap (λ t. cond t (suc (shared l p)) 0) (other_test x y d)
stops (suc s) (x ∷ l) (y ∷ p) a b d = stops s l p (omega arith) (omega arith) d

pub ends_left : (l p : List ℕ) → length l ≤ 0 → shared l p ≡ 0
ends_left [] p h = refl
ends_left (x ∷ l) p h = absurd (omega arith)

pub ends_right : (l p : List ℕ) → length p ≤ 0 → shared l p ≡ 0
ends_right [] p h = refl
ends_right (x ∷ l) [] h = refl
ends_right (x ∷ l) (y ∷ p) h = absurd (omega arith)
