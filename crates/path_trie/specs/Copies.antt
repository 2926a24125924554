-- Copies as names and values.
use Rattle.std.specs.Prelude.{ℕ, List, [], ◌∷◌, map, filter, String, string_bytes}
use Rattle.std.specs.FinMap.{remove}
use Rattle.gfs_types.specs.Paths.{Path, is_at_or_below}
use Rattle.path_trie.specs.Texts.{Names}

abbrev pub texts_of : {Y : Type 0} → List (String Y) → List (List ℕ)
texts_of names = map string_bytes names

module _ {X : Type 0} where
  -- those of these entries that lie at a path or below it
  abbrev pub entries_at : Path → List (Path × X) → List (Path × X)
  entries_at top es = filter (λ e. is_at_or_below top e.0) es

  -- each name with the value that stands beside it
  abbrev pub paired : List Path → List X → List (Path × X)
  paired [] values = []
  paired (name ∷ names) [] = []
  paired (name ∷ names) (value ∷ values) = (name, value) ∷ paired names values

  -- a map without these names
  abbrev pub without_names : List Path → Names X → Names X
  without_names [] entries = entries
  without_names (name ∷ names) entries = without_names names (remove entries name)
