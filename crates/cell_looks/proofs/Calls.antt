-- Calls, one more and some more.
use Rattle.std.proofs.Common.{◌≡◌, ℕ, zero, suc, ◌+◌, List, [], ◌∷◌, ◌++◌, refl, sym, ap, ◌∙◌, append_assoc, arith}
use Rattle.std.specs.Prelude.{replicate}
use Rattle.script.specs.declared.live_lines.LiveLine.{LiveLine}
use Rattle.cell_looks.specs.ClientAnswers.{calls_on, calls_of}

replicate_suc : {X : Type 0} (n : ℕ) (x : X) → replicate (suc n) x ≡ replicate n x ++ x ∷ []
replicate_suc zero x = refl
replicate_suc (suc n) x = ap (λ l. x ∷ l) (replicate_suc n x)

pub replicate_one_more : {X : Type 0} (n : ℕ) (x : X) → replicate (n + 1) x ≡ replicate n x ++ x ∷ []
replicate_one_more n x = let next : n + 1 ≡ suc n = omega arith in ap (λ (m : ℕ). replicate m x) next ∙ replicate_suc n x

pub calls_append : (n : ℕ) (xs ys : List LiveLine) → calls_of n (xs ++ ys) ≡ calls_of n xs ++ calls_of n ys
calls_append n [] ys = refl
calls_append n (x ∷ xs) ys = ap (λ l. calls_on n x ++ l) (calls_append n xs ys) ∙ sym (append_assoc (calls_on n x) (calls_of n xs) (calls_of n ys))
