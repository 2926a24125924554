-- Names in the order of their bytes, their number, and that each is a text.
use Rattle.std.specs.Prelude.{◌≡◌, ℕ, T, true, List, length}
use Rattle.std.specs.Ordering.{nat_cmp}
use Rattle.std.specs.Cmp.Lexicographic.{slice_cmp}
use Rattle.std.specs.FinMap.{is_sorted}
use Rattle.path_trie.specs.Texts.{are_texts}

pub record IsCounted {X : Type 0} (es : List (List ℕ × X)) (count : ℕ) : Type 0 where
  pub sorted : T (is_sorted (slice_cmp nat_cmp) es)
  pub counted : count ≡ length es
  pub texts : are_texts es ≡ true
