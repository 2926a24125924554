-- One writer knows what the words are.
use Rattle.std.specs.Prelude.{◌≡◌, ℕ, ◌+◌, ◌%◌, ◌^◌, List, [], ◌∷◌, length, slice_index, slice_set}
use Rattle.atomic_table.specs.Table.{State, Me, Step}
use Rattle.atomic_table.specs.Seated.{TableId}

-- there is one view, and it is that of the words as they are
abbrev pub AreKnown : State ℕ (List ℕ) → Type 0
AreKnown s = s.views ≡ s.words ∷ []

abbrev pub Writes : Step ℕ → Me ℕ (List ℕ) → ℕ → Me ℕ (List ℕ) → Type 0
Writes s v found w = w ≡ (slice_set v.0 s.word s.first, v.1)

abbrev pub Raises : Step ℕ → Me ℕ (List ℕ) → ℕ → Me ℕ (List ℕ) → Type 0
Raises s v found w = w ≡ (slice_set v.0 s.word ((slice_index v.0 s.word + s.first) % 2 ^ 64), v.1)

-- it is the writer of this table, and knows each of its words
pub record IsWriterOf (table writer : TableId) (words : List ℕ) : Type 0 where
  pub here : writer ≡ table
  pub count : length words ≡ table.words
