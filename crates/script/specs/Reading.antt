-- How a script is read, line by line.
use Rattle.std.specs.Prelude.{◌≡◌, ◌⊎◌, ◌↔◌, ◌<◌, ⊤, ℕ, ◌==◌, Bool, true, false, List, [], ◌∷◌, ◌++◌, length, Option, Some, None}
use Rattle.std.specs.List.{All, slice_split}

-- the byte at which a line ends
abbrev pub line_feed : ℕ
line_feed = 10

-- the bytes of a line before its line feed, at most
abbrev pub longest_line : ℕ
longest_line = 8192

-- a script's lines: what stands between its line feeds, and behind the last one
abbrev pub lines_in : List ℕ → List (List ℕ)
lines_in script = slice_split (λ c. c == line_feed) script

-- the next of the known bytes, or none at their end
abbrev pub Gives : Option (List ℕ) → Option (List ℕ) → Option ℕ → Type 0
Gives None new byte = ⊤
Gives (Some xs) None byte = ⊥
Gives (Some xs) (Some ys) (Some byte) = xs ≡ byte ∷ ys
Gives (Some xs) (Some ys) None = (xs ≡ []) × (ys ≡ [])

-- known bytes that begin with these, and lose them
abbrev pub Loses : Option (List ℕ) → Option (List ℕ) → List ℕ → Type 0
Loses None new bytes = ⊤
Loses (Some xs) None bytes = ⊥
Loses (Some xs) (Some ys) bytes = xs ≡ bytes ++ ys

-- A line of xs, before ys: it ends at a line feed, at the end, or where it is too long. At the end there is none.
abbrev pub EndsLine : List ℕ → List ℕ → List ℕ → Bool → Type 0
EndsLine xs ys line is_there =
    ((xs ≡ line ++ line_feed ∷ ys) × (is_there ≡ true))
    ⊎ (((xs ≡ line) × (ys ≡ []) × (is_there ≡ false ↔ line ≡ []))
    ⊎ ((xs ≡ line ++ ys) × (longest_line < length line) × (is_there ≡ true)))

abbrev pub HasNoFeed : List ℕ → Type 0
HasNoFeed line = All (λ c. (c == line_feed) ≡ false) line

-- a line of the known bytes
abbrev pub ReadsLine : Option (List ℕ) → Option (List ℕ) → List ℕ → Bool → Type 0
ReadsLine None new line is_there = ⊤
ReadsLine (Some xs) None line is_there = ⊥
ReadsLine (Some xs) (Some ys) line is_there = HasNoFeed line × EndsLine xs ys line is_there

-- these lines were read of xs, and ys is left: it has the other lines, or there is no other
abbrev pub AreRead : List ℕ → List (List ℕ) → List ℕ → Type 0
AreRead xs texts ys = (lines_in xs ≡ texts ++ lines_in ys) ⊎ ((lines_in xs ≡ texts) × (ys ≡ []))

-- these lines were read of the known bytes
abbrev pub Leaves : Option (List ℕ) → Option (List ℕ) → List (List ℕ) → Type 0
Leaves None new texts = ⊤
Leaves (Some xs) None texts = ⊥
Leaves (Some xs) (Some ys) texts = AreRead xs texts ys
