-- Lines of other counts of words have no digits.
use Rattle.std.proofs.Common.{◌≡◌, ℕ, ◌<◌, List, [], ◌∷◌, length, refl, arith}
use Rattle.serve_lines.specs.Lines.{line_for, plain_line}

pub line_few : (text : List ℕ) (words : List (List ℕ)) → length words < 4 → line_for text words ≡ plain_line text
line_few text [] few = refl
line_few text (a ∷ []) few = refl
line_few text (a ∷ b ∷ []) few = refl
line_few text (a ∷ b ∷ c ∷ []) few = refl
line_few text (a ∷ b ∷ c ∷ d ∷ rest) few = absurd (omega arith)

pub line_many : (text : List ℕ) (words : List (List ℕ)) → 5 < length words → line_for text words ≡ plain_line text
line_many text [] many = refl
line_many text (a ∷ []) many = refl
line_many text (a ∷ b ∷ []) many = refl
line_many text (a ∷ b ∷ c ∷ []) many = refl
line_many text (a ∷ b ∷ c ∷ d ∷ []) many = absurd (omega arith)
line_many text (a ∷ b ∷ c ∷ d ∷ e ∷ []) many = absurd (omega arith)
line_many text (a ∷ b ∷ c ∷ d ∷ e ∷ f ∷ rest) many = refl
