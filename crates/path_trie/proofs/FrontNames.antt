-- The names that begin with a front, by what they have behind it.
use Rattle.std.proofs.Common.{◌≡◌, ℕ, Bool, true, false, not, cond, ◌==◌, ◌&&◌, nat_eq, ◌≤◌, List, [], ◌∷◌, ◌++◌, length, Option, Some, None, is_some, map, refl, sym, ap, ◌∙◌, arith}
use mathlib.Core.Bool.{false≢true}
use Rattle.std.specs.List.{starts_with}
use Rattle.std.specs.Str.{bytes_eq, is_utf8}
use Rattle.gfs_types.specs.Paths.{root, is_path, is_child, is_at_or_below, front_below, parent, last_part}
use Rattle.path_trie.specs.Texts.{Names, are_texts}
use Rattle.path_trie.specs.Below.{child_entries, children_by_part, copies_of, rest_below}
use Rattle.path_trie.specs.Copies.{entries_at}
use Rattle.path_trie.specs.Counts.{IsCounted}
use Rattle.path_trie.specs.Walks.{name_in, wanted}
use Rattle.label_tree.specs.Entries.{BeginsFrom, under}
use Rattle.label_tree.specs.Behind.{rest_of, with_rest, behind}
use Rattle.label_tree.proofs.Behind.{same_byte}
use Rattle.path_trie.proofs.LowerNames.{begins_is, some_is, these}
use Rattle.path_trie.proofs.Maps.{names_of}
use Rattle.path_trie.proofs.Rests.{and_first, and_second, begins}
use Rattle.path_trie.proofs.Walks.{children_wanted}

abbrev or_empty : Option (List ℕ) → List ℕ
or_empty None = []
or_empty (Some r) = r

option_same : (p r : List ℕ) → Some p ≡ Some r → p ≡ r
option_same p r h = ap or_empty h

splits_by : (c d : ℕ) (f p r : List ℕ) (t : Bool) → (c == d) ≡ t → cond t (rest_of f p) None ≡ Some r → (rest_of f p ≡ Some r → p ≡ f ++ r) → d ∷ p ≡ c ∷ (f ++ r)
splits_by c d f p r true e h more = λ i. sym (same_byte c d e) i ∷ more h i
splits_by c d f p r false e h more = absurd (some_is r (sym h))

rest_splits : (f p r : List ℕ) → rest_of f p ≡ Some r → p ≡ f ++ r
rest_splits [] p r h = option_same p r h
rest_splits (c ∷ f) [] r h = absurd (some_is r (sym h))
rest_splits (c ∷ f) (d ∷ p) r h = splits_by c d f p r (c == d) refl h (rest_splits f p r)

none_begins : (f p : List ℕ) → rest_of f p ≡ None → starts_with nat_eq p f ≡ false
none_begins f p h = begins_is f p ∙ ap is_some h

no_child : (d p : List ℕ) → rest_of (front_below d) p ≡ None → is_child d p ≡ false
no_child d p h = ap (λ b. (b && not (bytes_eq p d)) && bytes_eq (parent p) d) (none_begins (front_below d) p h)

not_there : (top p : List ℕ) → rest_of top p ≡ None → is_at_or_below top p ≡ false
not_there top p h = by_test (is_at_or_below top p) refl
  where
    by_test : (t : Bool) → is_at_or_below top p ≡ t → t ≡ false
    by_test false e = refl
    by_test true e = absurd (false≢true (sym (none_begins top p h) ∙ begins top p e))

-- paths and fronts have bytes
pub some_path : (p : List ℕ) → is_path p ≡ true → 1 ≤ length p
some_path [] h = absurd (false≢true h)
some_path (c ∷ p) h = omega arith

pub some_begins : (p : List ℕ) → 1 ≤ length p → BeginsFrom 0 p
some_begins [] h = absurd (omega arith)
some_begins (c ∷ p) h = omega arith

begins_slash : (d : List ℕ) → BeginsFrom 0 (d ++ root)
begins_slash [] = omega arith
begins_slash (c ∷ d) = omega arith

begins_if : (t : Bool) (d : List ℕ) → BeginsFrom 0 (cond t root (d ++ root))
begins_if true d = omega arith
begins_if false d = begins_slash d

pub begins_below : (d : List ℕ) → BeginsFrom 0 (front_below d)
begins_below d = begins_if (bytes_eq d root) d

module _ {X : Type 0} where
  children_step : (d f : List ℕ) (e : List ℕ × X) (es bs : List (List ℕ × X)) → f ≡ front_below d → wanted (Some d) (under f bs) ≡ wanted (Some d) es → (o : Option (List ℕ)) → rest_of f e.0 ≡ o
      → wanted (Some d) (under f (with_rest o e.1 bs)) ≡ wanted (Some d) (e ∷ es)
  children_step d f e es bs at more None h = more ∙ ap (λ t. with_rest (cond t (Some (last_part e.0)) None) e.1 (wanted (Some d) es)) (sym (no_child d e.0 (ap (λ g. rest_of g e.0) (sym at) ∙ h)))
  children_step d f e es bs at more (Some r) h = λ i. with_rest (name_in (Some d) (sym (rest_splits f e.0 r h) i)) e.1 (more i)

  pub children_behind : (d f : List ℕ) (es : List (List ℕ × X)) → f ≡ front_below d → wanted (Some d) (under f (behind f es)) ≡ wanted (Some d) es
  children_behind d f [] at = refl
  children_behind d f (e ∷ es) at = children_step d f e es (behind f es) at (children_behind d f es at) (rest_of f e.0) refl

  texts_step : (f : List ℕ) (e : List ℕ × X) (bs : List (List ℕ × X)) → is_utf8 e.0 ≡ true → are_texts (under f bs) ≡ true → (o : Option (List ℕ)) → rest_of f e.0 ≡ o → are_texts (under f (with_rest o e.1 bs)) ≡ true
  texts_step f e bs text more None h = more
  texts_step f e bs text more (Some r) h = ap (λ b. b && are_texts (under f bs)) (ap is_utf8 (sym (rest_splits f e.0 r h)) ∙ text) ∙ more

  pub texts_behind : (f : List ℕ) (es : List (List ℕ × X)) → are_texts es ≡ true → are_texts (under f (behind f es)) ≡ true
  texts_behind f [] h = refl
  texts_behind f (e ∷ es) h = texts_step f e (behind f es) (and_first (is_utf8 e.0) (are_texts es) h) (texts_behind f es (and_second (is_utf8 e.0) (are_texts es) h)) (rest_of f e.0) refl

  at_step : (top : List ℕ) (e : List ℕ × X) (es bs : List (List ℕ × X)) → entries_at top (under top bs) ≡ entries_at top es → (o : Option (List ℕ)) → rest_of top e.0 ≡ o → entries_at top (under top (with_rest o e.1 bs)) ≡ entries_at top (e ∷ es)
  at_step top e es bs more None h = more ∙ ap (λ t. cond t (e ∷ entries_at top es) (entries_at top es)) (sym (not_there top e.0 h))
  at_step top e es bs more (Some r) h = λ i. cond (is_at_or_below top (sym (rest_splits top e.0 r h) i)) ((sym (rest_splits top e.0 r h) i, e.1) ∷ more i) (more i)

  pub at_behind : (top : List ℕ) (es : List (List ℕ × X)) → entries_at top (under top (behind top es)) ≡ entries_at top es
  at_behind top [] = refl
  at_behind top (e ∷ es) = at_step top e es (behind top es) (at_behind top es) (rest_of top e.0) refl

  pub names_behind : (from to : List ℕ) (es : List (List ℕ × X)) → map (λ (e : List ℕ × X). e.0) (copies_of from to (under from (behind from es))) ≡ map (λ (e : List ℕ × X). e.0) (copies_of from to es)
  names_behind from to es = ap (λ xs. map (λ (e : List ℕ × X). e.0) (map (λ (e : List ℕ × X). (to ++ rest_below from e.0, e.1)) xs)) (at_behind from es)

  pub values_behind : (from : List ℕ) (es : List (List ℕ × X)) → map (λ (e : List ℕ × X). e.1) (entries_at from (under from (behind from es))) ≡ map (λ (e : List ℕ × X). e.1) (entries_at from es)
  values_behind from es = ap (λ xs. map (λ (e : List ℕ × X). e.1) xs) (at_behind from es)

  -- the entries of a map, as a tree's names
  pub children_of_map : (es : List (List ℕ × X)) (count : ℕ) (names : Names X) (d f : List ℕ) → IsCounted es count → names_of es ≡ names → f ≡ front_below d → wanted (Some d) (under f (behind f es)) ≡ children_by_part names d
  children_of_map es count names d f h is at = children_behind d f es at ∙ children_wanted d es ∙ ap (child_entries d) (these es count names h is)
