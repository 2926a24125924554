-- The front of a block.
use Rattle.std.proofs.Common.{◌≡◌, ℕ, ◌+◌, ◌-◌, ◌≤◌, List, ◌++◌, take, drop, ap, sym, arith, ◌∙◌}
use Rattle.std.proofs.lemmas.List.{take-append-drop, take-take, drop-take}

-- the bytes before a place, and those from there up to another one
pub take_between : (a b : ℕ) (xs : List ℕ) → a ≤ b → take a xs ++ take (b - a) (drop a xs) ≡ take b xs
take_between a b xs le =
    let m = b - a in
    ap (λ (l : List ℕ). l ++ take m (drop a xs)) (sym (take-take a (a + m) xs (omega arith)))
    ∙ ap (λ (l : List ℕ). take a (take (a + m) xs) ++ l) (sym (drop-take a m xs))
    ∙ take-append-drop a (take (a + m) xs)
    ∙ ap (λ (n : ℕ). take n xs) (omega (arith, le))
