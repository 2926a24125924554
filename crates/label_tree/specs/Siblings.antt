-- Names that begin below a byte.
use Rattle.std.specs.Prelude.{ℕ, ◌<◌, List, [], ◌∷◌}
use Rattle.label_tree.specs.Fronts.{first_byte}

-- each name begins with a byte below this one
abbrev pub AllBelow : {X : Type 0} → ℕ → List (List ℕ × X) → Type 0
AllBelow n [] = Unit {0}
AllBelow n (e ∷ es) = (first_byte e.0 < n) × AllBelow n es
