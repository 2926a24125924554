-- the places of a list that lie within a range
use Rattle.std.proofs.Common.{◌≡◌, refl, ℕ, ◌<◌, ◌≤◌, min, max, nat_le, nat_lt, arith, lt-ltb, Bool, true, false, ◌&&◌}
use Rattle.std.proofs.lemmas.Bool.{ltb-true, ltb-false, le-ltb, leb-true}

lies_below : (stop end place : ℕ) (b : Bool) → nat_lt place end ≡ b → (place < end → place < stop) → (end ≤ place → stop ≤ place) → nat_lt place stop ≡ b
lies_below stop end place true e inside past = lt-ltb place stop (inside (ltb-true place end e))
lies_below stop end place false e inside past = le-ltb place stop (past (ltb-false place end e))

lies_within : (start stop end place : ℕ) (b : Bool) → nat_le start place ≡ b → (start ≤ place → nat_lt place stop ≡ nat_lt place end)
    → (b && nat_lt place stop) ≡ (b && nat_lt place end)
lies_within start stop end place true e same = same (leb-true start place e)
lies_within start stop end place false e same = refl

-- a range cut at the list's length has the same of the list's places
pub same_places : (start stop end count place : ℕ) → place < count → min end count ≤ stop → stop ≤ max start (min end count)
    → (nat_le start place && nat_lt place stop) ≡ (nat_le start place && nat_lt place end)
same_places start stop end count place h low high =
    lies_within start stop end place (nat_le start place) refl
    (λ s. lies_below stop end place (nat_lt place end) refl (λ i. grind (arith, h, low, i)) (λ p. grind (arith, h, high, s, p)))
