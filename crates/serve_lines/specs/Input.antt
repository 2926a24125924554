-- How the lines that are served are read.
use Rattle.std.specs.Prelude.{◌≡◌, ⊤, ℕ, suc, Bool, true, false, List, [], ◌∷◌, take, Option, Some, None}
use Rattle.script.specs.Reading.{longest_line, AreRead}

-- what is kept of a line: all of it, or of one that is too long one byte more than the longest line has
abbrev pub kept_of : List ℕ → List ℕ
kept_of text = take (suc longest_line) text

-- A whole line of xs was read, before ys, and this is kept of it; or nothing was left.
abbrev pub ReadsWhole : List ℕ → List ℕ → List ℕ → Bool → Type 0
ReadsWhole xs ys line true = (xs ≡ [] → ⊥) × (text : List ℕ) × (line ≡ kept_of text) × AreRead xs (text ∷ []) ys
ReadsWhole xs ys line false = (xs ≡ []) × (ys ≡ [])

-- a line of the known bytes
abbrev pub ReadsWholeLine : Option (List ℕ) → Option (List ℕ) → List ℕ → Bool → Type 0
ReadsWholeLine None new line is_there = ⊤
ReadsWholeLine (Some xs) None line is_there = ⊥
ReadsWholeLine (Some xs) (Some ys) line is_there = ReadsWhole xs ys line is_there
