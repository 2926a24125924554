-- The namespace as a finite map, and names that are texts.
use Rattle.std.specs.Prelude.{ℕ, Bool, List}
use Rattle.std.specs.List.{list_all}
use Rattle.std.specs.Ordering.{nat_cmp}
use Rattle.std.specs.Cmp.Lexicographic.{slice_cmp}
use Rattle.std.specs.FinMap.{FinMap}
use Rattle.std.specs.Str.{is_utf8}

-- a finite map of full paths, in the order of their bytes
abbrev pub Names : Type 0 → Type 0
Names X = FinMap (slice_cmp nat_cmp) X

-- whether each name is the bytes of a text
abbrev pub are_texts : {X : Type 0} → List (List ℕ × X) → Bool
are_texts es = list_all (λ e. is_utf8 e.0) es
