-- Which names of a tree a list has, and under which name each.
use Rattle.std.specs.Prelude.{ℕ, ◌+◌, Bool, false, if◌then◌else◌, List, [], ◌∷◌, Option, Some, None, drop, length}
use Rattle.std.specs.List.{list_any}
use Rattle.gfs_types.specs.Paths.{Path, is_slash, is_child, last_part}
use Rattle.label_tree.specs.Behind.{with_rest}

-- a path under its whole text; in the list of a directory's children, a child under its last part
abbrev pub name_in : Option Path → Path → Option (List ℕ)
name_in None path = Some path
name_in (Some directory) path = if is_child directory path then Some (last_part path) else None

-- whether what begins with this front lies too deep below the directory to be its child
abbrev pub is_past : Option Path → Path → Bool
is_past None front = false
is_past (Some directory) front = list_any is_slash (drop (length directory + 1) front)

module _ {X : Type 0} where
  -- the list of these names
  abbrev pub wanted : Option Path → List (Path × X) → List (List ℕ × X)
  wanted directory [] = []
  wanted directory (e ∷ es) = with_rest (name_in directory e.0) e.1 (wanted directory es)
