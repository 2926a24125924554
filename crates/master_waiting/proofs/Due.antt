-- What is to go from a list is found and taken one after another.
use Rattle.std.proofs.Common.{◌≡◌, ℕ, suc, ◌+◌, ◌<◌, Bool, true, false, not, cond, ltb, List, [], ◌∷◌, length, filter, Option, Some, None, refl, sym, ap, ◌∙◌, subst, arith}
use Rattle.std.specs.List.{position, prefix_len, remove}
use Rattle.std.proofs.lemmas.Bool.Decides.{nat_tests}

less_before : (a b : ℕ) → ltb (1 + a) (suc b) ≡ false → ltb a b ≡ false
less_before a b e = grind (arith, nat_tests)

less_before_true : (a b : ℕ) → ltb (1 + a) (suc b) ≡ true → ltb a b ≡ true
less_before_true a b e = grind (arith, nat_tests)

below : (a b : ℕ) → ltb a b ≡ true → a < b
below a b e = grind (arith, nat_tests)

module _ {X : Type 0} (keep : X → Bool) where
  -- how many stay before the first that goes
  abbrev kept : List X → ℕ
  kept xs = prefix_len (λ x. not (not (keep x))) xs

  all_stay : (xs : List X) → ltb (kept xs) (length xs) ≡ false → filter keep xs ≡ xs
  all_stay [] e = refl
  all_stay (x ∷ xs) e =
      elim (keep x) as (λ b. ltb (cond (not (not b)) (1 + kept xs) 0) (suc (length xs)) ≡ false → cond b (x ∷ filter keep xs) (filter keep xs) ≡ x ∷ xs) [
        | true ↦ λ f. ap (λ ys. x ∷ ys) (all_stay xs (less_before (kept xs) (length xs) f))
        | false ↦ λ f. absurd (let t : ltb 0 (suc (length xs)) ≡ true = grind (arith, nat_tests) in let both : true ≡ false = sym t ∙ f in cc)
      ] e

  one_goes : (xs : List X) → ltb (kept xs) (length xs) ≡ true → filter keep (remove xs (kept xs)) ≡ filter keep xs
  one_goes [] e = cc
  one_goes (x ∷ xs) e =
      elim (keep x) as (λ b. keep x ≡ b → ltb (cond (not (not b)) (1 + kept xs) 0) (suc (length xs)) ≡ true
      → filter keep (remove (x ∷ xs) (cond (not (not b)) (1 + kept xs) 0)) ≡ cond b (x ∷ filter keep xs) (filter keep xs)) [
        | true ↦ λ is f.
            let next : 1 + kept xs ≡ suc (kept xs) = omega arith in
            ap (λ n. filter keep (remove (x ∷ xs) n)) next
            ∙ ap (λ b. cond b (x ∷ filter keep (remove xs (kept xs))) (filter keep (remove xs (kept xs)))) is
            ∙ ap (λ ys. x ∷ ys) (one_goes xs (less_before_true (kept xs) (length xs) f))
        | false ↦ λ is f. refl
      ] refl e

  if_some : (n k i : ℕ) (b : Bool) → ltb n k ≡ b → cond b (Some n) None ≡ Some i → (n ≡ i) × (ltb n k ≡ true)
  if_some n k i true e f = ((let same : n ≡ i = cc in same), e)
  if_some n k i false e f = cc

  if_none : (n k : ℕ) (b : Bool) → ltb n k ≡ b → cond {A = Option ℕ} b (Some n) None ≡ None → ltb n k ≡ false
  if_none n k true e f = cc
  if_none n k false e f = e

  pub none_due : (xs : List X) → position (λ x. not (keep x)) xs ≡ None → filter keep xs ≡ xs
  none_due xs e = all_stay xs (if_none (kept xs) (length xs) (ltb (kept xs) (length xs)) refl e)

  pub due : (xs : List X) (i : ℕ) → position (λ x. not (keep x)) xs ≡ Some i → (i < length xs) × (filter keep (remove xs i) ≡ filter keep xs)
  due xs i e =
      let is = if_some (kept xs) (length xs) i (ltb (kept xs) (length xs)) refl e in (
        subst (λ n. n < length xs) is.0 (below (kept xs) (length xs) is.1),
        subst (λ n. filter keep (remove xs n) ≡ filter keep xs) is.0 (one_goes xs is.1),
      )
