-- Lists that are found by going over the servers.
use Rattle.std.proofs.Common.{◌≡◌, ℕ, suc, ◌+◌, Bool, true, false, cond, [], ◌∷◌, ◌++◌, sym, ap, ◌∙◌, Option, arith, append-nil}
use Rattle.std.specs.List.{filter, filter_map, cons_option}
use Rattle.std.proofs.lemmas.List.Elements.{filter-append, filter_map-append}
use Rattle.protocol.specs.Tables.{first_numbers}

pub first_more : (n : ℕ) → first_numbers (n + 1) ≡ first_numbers n ++ (n + 1) ∷ []
first_more n = let e : n + 1 ≡ suc n = omega arith in ap first_numbers e ∙ ap (λ x. first_numbers n ++ x ∷ []) (sym e)

pub found_more : {X : Type 0} (f : ℕ → Option X) (n : ℕ) → filter_map f (first_numbers (n + 1)) ≡ filter_map f (first_numbers n) ++ cons_option (f (n + 1)) []
found_more f n = ap (filter_map f) (first_more n) ∙ filter_map-append f (first_numbers n) ((n + 1) ∷ [])

-- a server that passes a test, and one that doesn't
pub kept_more : (test : ℕ → Bool) (n : ℕ) → test (n + 1) ≡ true → filter test (first_numbers (n + 1)) ≡ filter test (first_numbers n) ++ (n + 1) ∷ []
kept_more test n e =
    ap (filter test) (first_more n) ∙ filter-append test (first_numbers n) ((n + 1) ∷ [])
    ∙ ap (λ b. filter test (first_numbers n) ++ cond b ((n + 1) ∷ []) []) e

pub left_more : (test : ℕ → Bool) (n : ℕ) → test (n + 1) ≡ false → filter test (first_numbers (n + 1)) ≡ filter test (first_numbers n)
left_more test n e =
    ap (filter test) (first_more n) ∙ filter-append test (first_numbers n) ((n + 1) ∷ [])
    ∙ ap (λ b. filter test (first_numbers n) ++ cond b ((n + 1) ∷ []) []) e
    ∙ append-nil (filter test (first_numbers n))
