-- A writer that has the journal lends it, and has it again as it was left.
use Rattle.std.proofs.Common.{◌≡◌, ℕ, List, [], ◌∷◌, Option, Some, None, sym, ap, ◌∙◌}
use Rattle.atomic_table.specs.Table.{rest}
use Rattle.cell_journal.specs.Identity.{Filled}

-- a writer lends what it has
pub lends : (l : List (ℕ × Option Filled)) (y : Filled) → l ≡ (0, Some y) ∷ [] → l ≡ (0, Some y) ∷ rest l
lends l y has = has ∙ ap (λ (r : List (ℕ × Option Filled)). (0, Some y) ∷ rest r) (sym has)

abbrev value : Option Filled → List (ℕ × Option Filled) → Option Filled
value d [] = d
value d ((k, x) ∷ xs) = x

pub lent : (l : List (ℕ × Option Filled)) (now : Option Filled) (y : Filled) → l ≡ (0, now) ∷ rest l → l ≡ (0, Some y) ∷ [] → now ≡ Some y
lent l now y has_now has = ap (value None) (sym has_now ∙ has)

pub left : (l : List (ℕ × Option Filled)) (new : Option Filled) (y z : Filled) → l ≡ (0, Some y) ∷ [] → new ≡ Some z → ◌≡◌ {A = List (ℕ × Option Filled)} ((0, new) ∷ rest l) ((0, Some z) ∷ [])
left l new y z has is = ap (λ (s : Option Filled). (0, s) ∷ rest l) is ∙ ap (λ (r : List (ℕ × Option Filled)). (0, Some z) ∷ rest r) has
