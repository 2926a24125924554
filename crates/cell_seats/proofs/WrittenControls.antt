-- What is written of a policy and of restarts.
use Rattle.std.proofs.Common.{◌≡◌, ℕ, zero, suc, ◌≤◌, List, [], ◌∷◌, length, refl, sym, ap, ◌∙◌, arith}
use Rattle.std.specs.Prelude.{slice_set}
use Rattle.cell_seats.specs.declared.mailboxes.Policy.{Policy}
use Rattle.cell_seats.specs.Controls.{policy_in, raised}

three_written : (ws : List ℕ) (p : Policy) → length ws ≡ 3 → policy_in (slice_set (slice_set (slice_set ws 0 p.drop_every) 1 p.repeat_every) 2 p.hold_every) ≡ p
three_written [] p h = absurd (omega (arith, h))
three_written (a ∷ []) p h = absurd (omega (arith, h))
three_written (a ∷ b ∷ []) p h = absurd (omega (arith, h))
three_written (a ∷ b ∷ c ∷ rest) p h = refl

-- the words after each of the three steps
pub policy_written : (ws one two three : List ℕ) (p : Policy) → length ws ≡ 3 → one ≡ slice_set ws 0 p.drop_every → two ≡ slice_set one 1 p.repeat_every → three ≡ slice_set two 2 p.hold_every → policy_in three ≡ p
policy_written ws one two three p h a b c =
    ap policy_in (c ∙ (ap (λ (l : List ℕ). slice_set l 2 p.hold_every) b ∙ ap (λ (l : List ℕ). slice_set (slice_set l 1 p.repeat_every) 2 p.hold_every) a)) ∙ three_written ws p h

set_past : (ws : List ℕ) (place new : ℕ) → length ws ≤ place → slice_set ws place new ≡ ws
set_past [] place new h = refl
set_past (w ∷ ws) zero new h = absurd (omega (arith, h))
set_past (w ∷ ws) (suc place) new h = ap (λ (l : List ℕ). w ∷ l) (set_past ws place new (let e : length ws ≤ place = omega (arith, h) in e))

pub raised_past : (ws : List ℕ) (place count : ℕ) → length ws ≡ count → count ≤ place → ws ≡ raised ws place
raised_past ws place count h past = sym (set_past ws place _ (let e : length ws ≤ place = omega (arith, h, past) in e))
