-- The names that begin with given bytes.
use Rattle.std.specs.Prelude.{ℕ, Bool, true, false, ◌==◌, if◌then◌else◌, List, [], ◌∷◌, Option, Some, None}
use Rattle.std.specs.List.{list_any}

-- what a name has behind bytes that it begins with
abbrev pub rest_of : List ℕ → List ℕ → Option (List ℕ)
rest_of [] name = Some name
rest_of (c ∷ front) [] = None
rest_of (c ∷ front) (d ∷ name) = if c == d then rest_of front name else None

abbrev pub is_longer : List ℕ → Bool
is_longer [] = false
is_longer (c ∷ rest) = true

module _ {X : Type 0} where
  abbrev pub with_rest : Option (List ℕ) → X → List (List ℕ × X) → List (List ℕ × X)
  with_rest None value es = es
  with_rest (Some rest) value es = (rest, value) ∷ es

  -- the names that begin with these bytes, without them
  abbrev pub behind : List ℕ → List (List ℕ × X) → List (List ℕ × X)
  behind front [] = []
  behind front (e ∷ es) = with_rest (rest_of front e.0) e.1 (behind front es)

  -- whether a name begins with these bytes and has more
  abbrev pub has_more : List ℕ → List (List ℕ × X) → Bool
  has_more front es = list_any (λ e. is_longer e.0) (behind front es)
