-- What two lists of bytes begin with alike.
use Rattle.std.specs.Prelude.{ℕ, suc, List, [], ◌∷◌, ◌==◌, if◌then◌else◌}

-- how many bytes both begin with
abbrev pub shared : List ℕ → List ℕ → ℕ
shared [] ys = 0
shared (x ∷ xs) [] = 0
shared (x ∷ xs) (y ∷ ys) = if x == y then suc (shared xs ys) else 0

-- the first byte, or 0
abbrev pub first_byte : List ℕ → ℕ
first_byte [] = 0
first_byte (c ∷ rest) = c
