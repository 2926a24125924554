-- Other counts of words give no call.
use Rattle.std.proofs.Common.{◌≡◌, ℕ, ◌<◌, List, [], ◌∷◌, length, None, refl, arith}
use Rattle.script.specs.Lines.{call_of}

pub call_of_few : (words : List (List ℕ)) → length words < 2 → call_of words ≡ None
call_of_few [] few = refl
call_of_few (a ∷ []) few = refl
call_of_few (a ∷ b ∷ rest) few = absurd (omega arith)

pub call_of_many : (words : List (List ℕ)) → 4 < length words → call_of words ≡ None
call_of_many [] many = refl
call_of_many (a ∷ []) many = refl
call_of_many (a ∷ b ∷ []) many = absurd (omega arith)
call_of_many (a ∷ b ∷ c ∷ []) many = absurd (omega arith)
call_of_many (a ∷ b ∷ c ∷ d ∷ []) many = absurd (omega arith)
call_of_many (a ∷ b ∷ c ∷ d ∷ e ∷ rest) many = refl
