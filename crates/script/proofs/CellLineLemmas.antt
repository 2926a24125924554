-- Other counts of words give nothing.
use Rattle.std.proofs.Common.{◌≡◌, ℕ, ◌<◌, List, [], ◌∷◌, length, None, refl, arith}
use Rattle.script.specs.CellLines.{call_of, fuse_of, matter_of, rot_of}

pub call_of_few : (words : List (List ℕ)) → length words < 2 → call_of words ≡ None
call_of_few [] few = refl
call_of_few (a ∷ []) few = refl
call_of_few (a ∷ b ∷ rest) few = absurd (omega arith)

pub call_of_many : (words : List (List ℕ)) → 4 < length words → call_of words ≡ None
call_of_many [] many = refl
call_of_many (a ∷ []) many = refl
call_of_many (a ∷ b ∷ []) many = absurd (omega arith)
call_of_many (a ∷ b ∷ c ∷ []) many = absurd (omega arith)
call_of_many (a ∷ b ∷ c ∷ d ∷ []) many = absurd (omega arith)
call_of_many (a ∷ b ∷ c ∷ d ∷ e ∷ rest) many = refl

pub matter_few : (words : List (List ℕ)) → length words < 2 → matter_of words ≡ None
matter_few [] few = refl
matter_few (a ∷ []) few = refl
matter_few (a ∷ b ∷ rest) few = absurd (omega arith)

pub matter_many : (words : List (List ℕ)) → 2 < length words → matter_of words ≡ None
matter_many [] many = refl
matter_many (a ∷ []) many = refl
matter_many (a ∷ b ∷ []) many = absurd (omega arith)
matter_many (a ∷ b ∷ c ∷ rest) many = refl

pub fuse_few : (words : List (List ℕ)) → length words < 3 → fuse_of words ≡ None
fuse_few [] few = refl
fuse_few (a ∷ []) few = refl
fuse_few (a ∷ b ∷ []) few = refl
fuse_few (a ∷ b ∷ c ∷ rest) few = absurd (omega arith)

pub fuse_many : (words : List (List ℕ)) → 3 < length words → fuse_of words ≡ None
fuse_many [] many = refl
fuse_many (a ∷ []) many = refl
fuse_many (a ∷ b ∷ []) many = refl
fuse_many (a ∷ b ∷ c ∷ []) many = absurd (omega arith)
fuse_many (a ∷ b ∷ c ∷ d ∷ rest) many = refl

pub rot_few : (words : List (List ℕ)) → length words < 5 → rot_of words ≡ None
rot_few [] few = refl
rot_few (a ∷ []) few = refl
rot_few (a ∷ b ∷ []) few = refl
rot_few (a ∷ b ∷ c ∷ []) few = refl
rot_few (a ∷ b ∷ c ∷ d ∷ []) few = refl
rot_few (a ∷ b ∷ c ∷ d ∷ e ∷ rest) few = absurd (omega arith)

pub rot_many : (words : List (List ℕ)) → 5 < length words → rot_of words ≡ None
rot_many [] many = refl
rot_many (a ∷ []) many = refl
rot_many (a ∷ b ∷ []) many = refl
rot_many (a ∷ b ∷ c ∷ []) many = refl
rot_many (a ∷ b ∷ c ∷ d ∷ []) many = refl
rot_many (a ∷ b ∷ c ∷ d ∷ e ∷ []) many = absurd (omega arith)
rot_many (a ∷ b ∷ c ∷ d ∷ e ∷ f ∷ rest) many = refl
