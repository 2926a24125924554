-- Ranges, read one after another.
use Rattle.std.proofs.Common.{◌≡◌, ℕ, suc, ◌+◌, ◌-◌, ◌<◌, Bool, true, false, List, [], ◌∷◌, ◌++◌, drop, refl, sym, ap, ◌∙◌, subst, arith, append_assoc, Option, Some, None, if◌then◌else◌}
use Rattle.std.specs.Option.{option_map}
use Rattle.disk_redo.specs.Redo.{has_range, length_in, range_in, ranges_in}
use Rattle.disk_redo.specs.declared.range.RedoRange.{RedoRange}
use Rattle.disk_redo.specs.Opening.{first_in}

none_found : (b : Bool) (x : RedoRange × List ℕ) (y : Option (List RedoRange)) → (if b then Some x else None) ≡ None → (if b then y else None) ≡ None
none_found true x y e = absurd cc
none_found false x y e = refl

one_found : (n : ℕ) (b : Bool) (x y : RedoRange × List ℕ) → (if b then Some x else None) ≡ Some y
    → (if b then option_map (λ l. x.0 ∷ l) (ranges_in n x.1) else None) ≡ option_map (λ l. y.0 ∷ l) (ranges_in n y.1)
one_found n true x y e = let same : x ≡ y = cc in ap (λ (z : RedoRange × List ℕ). option_map (λ l. z.0 ∷ l) (ranges_in n z.1)) same
one_found n false x y e = absurd cc

first_none : (n : ℕ) (rest : List ℕ) → first_in rest ≡ None → ranges_in (suc n) rest ≡ None
first_none n rest e = none_found (has_range rest) (range_in rest, drop (12 + length_in rest) rest) (option_map (λ l. range_in rest ∷ l) (ranges_in n (drop (12 + length_in rest) rest))) e

first_some : (n : ℕ) (rest : List ℕ) (r : RedoRange) (after : List ℕ) → first_in rest ≡ Some (r, after) → ranges_in (suc n) rest ≡ option_map (λ l. r ∷ l) (ranges_in n after)
first_some n rest r after e = one_found n (has_range rest) (range_in rest, drop (12 + length_in rest) rest) (r, after) e

behind : (found : List RedoRange) (r : RedoRange) (x : Option (List RedoRange)) → option_map (λ rs. (found ++ r ∷ []) ++ rs) x ≡ option_map (λ rs. found ++ rs) (option_map (λ l. r ∷ l) x)
behind found r None = refl
behind found r (Some rs) = ap Some (append_assoc found (r ∷ []) rs)

one_fewer : (count counter : ℕ) → counter < count → count - counter ≡ suc (count - (counter + 1))
one_fewer count counter lt = omega (arith, lt)

module _ (found : List RedoRange) (count counter : ℕ) (rest : List ℕ) (all : Option (List RedoRange)) (lt : counter < count) where
  pub ends : first_in rest ≡ None → option_map (λ rs. found ++ rs) (ranges_in (count - counter) rest) ≡ all → None ≡ all
  ends e so_far =
      sym (ap (λ (k : ℕ). option_map (λ rs. found ++ rs) (ranges_in k rest)) (one_fewer count counter lt) ∙ ap (λ (x : Option (List RedoRange)). option_map (λ rs. found ++ rs) x) (first_none (count - (counter + 1)) rest e)) ∙ so_far

  pub goes_on : (r : RedoRange) (after : List ℕ) → first_in rest ≡ Some (r, after) → option_map (λ rs. found ++ rs) (ranges_in (count - counter) rest) ≡ all
      → option_map (λ rs. (found ++ r ∷ []) ++ rs) (ranges_in (count - (counter + 1)) after) ≡ all
  goes_on r after e so_far =
      behind found r (ranges_in (count - (counter + 1)) after)
      ∙ sym (ap (λ (k : ℕ). option_map (λ rs. found ++ rs) (ranges_in k rest)) (one_fewer count counter lt) ∙ ap (λ (x : Option (List RedoRange)). option_map (λ rs. found ++ rs) x) (first_some (count - (counter + 1)) rest r after e)) ∙ so_far
