-- What stands right below a directory, and below it at any depth, in a finite map of full paths (section 4.1), and what a copy adds (section 3.4).
use Rattle.std.specs.Prelude.{ℕ, Bool, List, [], ◌∷◌, map, filter, ◌++◌, ◌&&◌, not, if◌then◌else◌, drop, length}
use Rattle.std.specs.List.{list_any}
use Rattle.std.specs.Str.{bytes_eq}
use Rattle.std.specs.FinMap.{entries, insert}
use Rattle.gfs_types.specs.Paths.{Path, root, last_part, is_child, is_below, is_at_or_below}
use Rattle.path_trie.specs.Texts.{Names}

-- What a path that lies at `top` or below it has behind `top`: nothing, or a slash and more.
abbrev pub rest_below : Path → Path → List ℕ
rest_below top path = if bytes_eq top root && not (bytes_eq path root) then path else drop (length top) path

module _ {X : Type 0} where
  -- those of these entries that stand right below a directory, each under the last part of its path
  abbrev pub child_entries : Path → List (Path × X) → List (List ℕ × X)
  child_entries directory es = map (λ e. (last_part e.0, e.1)) (filter (λ e. is_child directory e.0) es)

  -- what stands right below a directory, each under the last part of its path, in the order of the paths
  abbrev pub children_by_part : Names X → Path → List (List ℕ × X)
  children_by_part names directory = child_entries directory (entries names)

  -- whether a name lies below a directory, at any depth
  abbrev pub has_below : Names X → Path → Bool
  has_below names directory = list_any (λ e. is_below directory e.0) (entries names)

  -- whether a name lies at a path or below it
  abbrev pub has_at_or_below : Names X → Path → Bool
  has_at_or_below names path = list_any (λ e. is_at_or_below path e.0) (entries names)

  -- those of these entries that lie at `from` or below it, moved to `to`
  abbrev pub copies_of : Path → Path → List (Path × X) → List (Path × X)
  copies_of from to es = map (λ e. (to ++ rest_below from e.0, e.1)) (filter (λ e. is_at_or_below from e.0) es)

  -- what a copy of `from` at `to` adds, in the order of the paths
  abbrev pub copied_entries : Names X → Path → Path → List (Path × X)
  copied_entries names from to = copies_of from to (entries names)

  -- the names with these entries added in turn
  abbrev pub with_entries : Names X → List (Path × X) → Names X
  with_entries names [] = names
  with_entries names (e ∷ rest) = with_entries (insert names e.0 e.1) rest
