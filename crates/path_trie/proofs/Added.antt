-- Names that are added in turn, or taken back.
use Rattle.std.proofs.Common.{◌≡◌, ℕ, zero, suc, ◌+◌, ◌<◌, Bool, true, false, cond, ◌&&◌, ◌||◌, List, [], ◌∷◌, ◌++◌, Option, Some, None, String, string_bytes, take, drop, length, length-append, ◌≤◌, get_or, map, refl, sym, ap, ◌∙◌, arith}
use mathlib.Core.Bool.{false≢true}
use Rattle.std.specs.Ordering.{nat_cmp, eq_by_cmp}
use Rattle.std.specs.Cmp.Lexicographic.{slice_cmp, nat_list_cmp_total}
use Rattle.std.specs.List.{list_any, list_all}
use Rattle.std.specs.Str.{bytes_eq}
use Rattle.std.proofs.lemmas.Map.Text.{is_eq-slice_cmp}
use Rattle.std.proofs.lemmas.List.Folds.{list_any_more}
use Rattle.std.proofs.lemmas.List.Sums.{AllPass-from_list_all}
use Rattle.std.proofs.Math.Seq.{drop-cons}
use Rattle.std.proofs.lemmas.Slice.Eq.{bytes_eq-Decides}
use Rattle.std.specs.FinMap.{get, entries, insert, remove, find, get-entries, get-insert, get-remove, same_map}
use Rattle.gfs_types.specs.Paths.{Path, is_at_or_below}
use Rattle.path_trie.specs.Texts.{Names}
use Rattle.path_trie.specs.Below.{rest_below, copies_of, has_at_or_below}
use Rattle.path_trie.specs.Copies.{entries_at, paired, texts_of, without_names}
use Rattle.path_trie.proofs.Maps.{bytes_exact}
use Rattle.path_trie.proofs.Rests.{and_first, and_second, at_or_below_split}

-- whether a name is one of these
abbrev pub is_among : Path → List Path → Bool
is_among q names = list_any (bytes_eq q) names

tied_same : (q x : List ℕ) → eq_by_cmp (slice_cmp nat_cmp) q x ≡ true → q ≡ x
tied_same q x h = (bytes_eq-Decides q x).0 (sym (is_eq-slice_cmp q x) ∙ h)

among_by : (out : Path → Bool) (q n : Path) (more : Bool) (t : Bool) → bytes_eq q n ≡ t → (t || more) ≡ true → out n ≡ true → (more ≡ true → out q ≡ true) → out q ≡ true
among_by out q n more true e some at others = ap out ((bytes_eq-Decides q n).0 e) ∙ at
among_by out q n more false e some at others = others some

among_all : (out : Path → Bool) (q : Path) (k : ℕ) (names : List Path) → list_all out names ≡ true → is_among q (take k names) ≡ true → out q ≡ true
among_all out q zero names all some = absurd (false≢true some)
among_all out q (suc k) [] all some = absurd (false≢true some)
among_all out q (suc k) (n ∷ names) all some =
    among_by out q n (is_among q (take k names)) (bytes_eq q n) refl some (and_first (out n) (list_all out names) all) (among_all out q k names (and_second (out n) (list_all out names) all))

either_none : (a b : Bool) → (a || b) ≡ false → (a ≡ false) × (b ≡ false)
either_none true b h = absurd (false≢true (sym h))
either_none false b h = (refl, h)

module _ {X : Type 0} where
  -- names and values of copies
  pair_moved : (from to : Path) (fs : List (Path × X)) → paired (map (λ (e : Path × X). e.0) (map (λ (e : Path × X). (to ++ rest_below from e.0, e.1)) fs)) (map (λ (e : Path × X). e.1) fs) ≡ map (λ (e : Path × X). (to ++ rest_below from e.0, e.1)) fs
  pair_moved from to [] = refl
  pair_moved from to (e ∷ fs) = ap (λ xs. (to ++ rest_below from e.0, e.1) ∷ xs) (pair_moved from to fs)

  pub paired_copies : (from to : Path) (es : List (Path × X)) (ns : List Path) (vs : List X) → ns ≡ map (λ (e : Path × X). e.0) (copies_of from to es) → vs ≡ map (λ (e : Path × X). e.1) (entries_at from es) → paired ns vs ≡ copies_of from to es
  paired_copies from to es ns vs names values = (λ i. paired (names i) (values i)) ∙ pair_moved from to (entries_at from es)

  same_lengths : (from to : Path) (fs : List (Path × X)) → length (map (λ (e : Path × X). e.0) (map (λ (e : Path × X). (to ++ rest_below from e.0, e.1)) fs)) ≡ length (map (λ (e : Path × X). e.1) fs)
  same_lengths from to [] = refl
  same_lengths from to (e ∷ fs) = ap suc (same_lengths from to fs)

  pub as_many : (from to : Path) (es : List (Path × X)) (ns : List Path) (vs : List X) → ns ≡ map (λ (e : Path × X). e.0) (copies_of from to es) → vs ≡ map (λ (e : Path × X). e.1) (entries_at from es) → length ns ≡ length vs
  as_many from to es ns vs names values = ap length names ∙ same_lengths from to (entries_at from es) ∙ ap length (sym values)

  -- a map without names
  without_if : (t u : Bool) (o : Option X) → cond u None (cond t None o) ≡ cond (t || u) None o
  without_if true true o = refl
  without_if true false o = refl
  without_if false u o = refl

  get_without : (names : List Path) (m : Names X) (q : Path) → get (without_names names m) q ≡ cond (is_among q names) None (get m q)
  get_without [] m q = refl
  get_without (n ∷ names) m q =
      get_without names (remove m n) q
      ∙ ap (cond (is_among q names) None) (get-remove nat_list_cmp_total m n q ∙ ap (λ t. cond t None (get m q)) (is_eq-slice_cmp q n))
      ∙ without_if (bytes_eq q n) (is_among q names) (get m q)

  -- no name is there yet that lies where names are added
  module _ (out : Path → Bool) where
    find_by : (e : Path × X) (rest : Option X) (any : Bool) (q : Path) → out q ≡ true → (t : Bool) → eq_by_cmp (slice_cmp nat_cmp) q e.0 ≡ t → (b : Bool) → out e.0 ≡ b → (b || any) ≡ false → (any ≡ false → rest ≡ None) → cond t (Some e.1) rest ≡ None
    find_by e rest any q at t tie true b none more = absurd (false≢true (sym none))
    find_by e rest any q at true tie false b none more = absurd (false≢true (sym b ∙ ap out (sym (tied_same q e.0 tie)) ∙ at))
    find_by e rest any q at false tie false b none more = more none

    find_none : (es : List (Path × X)) (q : Path) → list_any (λ e. out e.0) es ≡ false → out q ≡ true → find (slice_cmp nat_cmp) q es ≡ None
    find_none [] q none at = refl
    find_none (e ∷ es) q none at = find_by e (find (slice_cmp nat_cmp) q es) (list_any (λ e. out e.0) es) q at (eq_by_cmp (slice_cmp nat_cmp) q e.0) refl (out e.0) refl none (λ rest. find_none es q rest at)

  absent : (m : Names X) (top q : Path) → has_at_or_below m top ≡ false → is_at_or_below top q ≡ true → get m q ≡ None
  absent m top q none at = get-entries m q ∙ find_none (is_at_or_below top) (entries m) q none at

  -- what is taken back was not there before
  pub taken_back : (old m : Names X) (top : Path) (names : List Path) (k : ℕ) → has_at_or_below old top ≡ false → list_all (is_at_or_below top) names ≡ true
      → ((q : Path) → is_among q (take k names) ≡ false → get m q ≡ get old q) → without_names (take k names) m ≡ old
  taken_back old m top names k none all others = same_map nat_list_cmp_total bytes_exact _ _ (λ q. get_without (take k names) m q ∙ by_among q (is_among q (take k names)) refl)
    where
      by_among : (q : Path) (t : Bool) → is_among q (take k names) ≡ t → cond t None (get m q) ≡ get old q
      by_among q true e = sym (absent old top q none (among_all (is_at_or_below top) q k names all e))
      by_among q false e = others q e

  pub others_kept : (old m : Names X) (names : List Path) (k : ℕ) (n : Path) (v : X) → k < length names → get_or names k [] ≡ n → ((q : Path) → is_among q (take k names) ≡ false → get m q ≡ get old q)
      → (q : Path) → is_among q (take (k + 1) names) ≡ false → get (insert m n v) q ≡ get old q
  others_kept old m names k n v within at others q none =
      let both = either_none (is_among q (take k names)) (bytes_eq q (get_or names k [])) (sym (list_any_more (bytes_eq q) names k [] within) ∙ none) in
      get-insert nat_list_cmp_total m n v q
      ∙ ap (λ t. cond t (Some v) (get m q)) (is_eq-slice_cmp q n ∙ ap (bytes_eq q) (sym at) ∙ both.1)
      ∙ others q both.0

  pub next_pair : (names : List Path) (k : ℕ) (n : Path) (v : X) (vs : List X) → k < length names → get_or names k [] ≡ n → paired (drop k names) (v ∷ vs) ≡ (n, v) ∷ paired (drop (k + 1) names) vs
  next_pair names k n v vs within at =
      ap (λ ns. paired ns (v ∷ vs)) (drop-cons names k [] within) ∙ (λ i. (at i, v) ∷ paired (drop (more i) names) vs)
    where
      more : suc k ≡ k + 1
      more = omega arith

  pub next_taken : (names : List Path) (k : ℕ) (n : Path) (m : Names X) → k < length names → get_or names k [] ≡ n → without_names (drop k names) m ≡ without_names (drop (k + 1) names) (remove m n)
  next_taken names k n m within at =
      ap (λ ns. without_names ns m) (drop-cons names k [] within) ∙ (λ i. without_names (drop (more i) names) (remove m (at i)))
    where
      more : suc k ≡ k + 1
      more = omega arith

-- a name at its place, and how it begins
pub text_at : {Y : Type 0} (names : List (String Y)) (k : ℕ) (d : String Y) → k < length names → get_or (texts_of names) k [] ≡ string_bytes (get_or names k d)
text_at [] k d within = absurd (omega (arith, within))
text_at (n ∷ names) zero d within = refl
text_at (n ∷ names) (suc k) d within = text_at names k d (omega (arith, within))

pub some_name : (top : Path) (names : List Path) (k : ℕ) (n : Path) → list_all (is_at_or_below top) names ≡ true → 1 ≤ length top → k < length names → get_or names k [] ≡ n → 1 ≤ length n
some_name top names k n all some within at =
    let there : is_at_or_below top n ≡ true = ap (is_at_or_below top) (sym at) ∙ AllPass-from_list_all (is_at_or_below top) names all k [] within in
    omega (arith, some, ap length (at_or_below_split top n there), length-append top (drop (length top) n))

module _ {X : Type 0} where
  pub all_names : (out : Path → Bool) (es : List (Path × X)) → list_all out (map (λ (e : Path × X). e.0) es) ≡ list_all (λ (e : Path × X). out e.0) es
  all_names out [] = refl
  all_names out (e ∷ es) = ap (λ b. out e.0 && b) (all_names out es)
