-- A list of names, node by node.
use Rattle.std.proofs.Common.{◌≡◌, ℕ, ◌+◌, ◌-◌, ◌≤◌, ◌<◌, Bool, true, false, cond, not, ◌&&◌, nat_le, List, [], ◌∷◌, ◌++◌, Option, Some, None, drop, length, get_or, map, filter, reverse, refl, sym, ap, ◌∙◌, arith, length-drop, length-append}
use mathlib.Core.Bool.{false≢true}
use Rattle.std.specs.List.{list_any, before_last, suffix_len}
use Rattle.std.specs.Str.{bytes_eq, is_utf8}
use Rattle.std.proofs.lemmas.Bool.Decides.{nat_tests}
use Rattle.std.proofs.lemmas.Grind.{get_or_default_zero}
use Rattle.std.proofs.lemmas.List.{append_assoc, append-nil, get_or-drop, get_or-reverse, get_or_append_left, length-take-le}
use Rattle.std.proofs.lemmas.List.Folds.{Any-from_list_any, list_all-append}
use Rattle.std.proofs.lemmas.List.Sums.{prefix_len_passes}
use Rattle.std.proofs.lemmas.Slice.Eq.{bytes_eq-Decides}
use Rattle.gfs_types.specs.Paths.{Path, root, is_slash, is_below, is_child, parent, last_part}
use Rattle.label_tree.specs.Entries.{under, own, level}
use Rattle.label_tree.proofs.Levels.{joined}
use Rattle.label_tree.specs.Behind.{with_rest}
use Rattle.path_trie.specs.Below.{child_entries}
use Rattle.path_trie.specs.Texts.{are_texts}
use Rattle.path_trie.specs.Walks.{name_in, is_past, wanted}
use Rattle.path_trie.proofs.Rests.{and_first, and_second}

abbrev not_slash : ℕ → Bool
not_slash c = not (is_slash c)

-- at most so many bytes stand behind the last slash as behind any
behind_slash : (p : List ℕ) (i : ℕ) → i < length p → not_slash (get_or p i 0) ≡ false → suffix_len not_slash p ≤ length p - 1 - i
behind_slash p i within slash = by_test (nat_le (suffix_len not_slash p) (length p - 1 - i)) refl
  where
    turned : i ≡ length p - 1 - (length p - 1 - i)
    turned = omega (arith, within)

    reversed : get_or (reverse p) (length p - 1 - i) 0 ≡ get_or p i 0
    reversed = get_or-reverse p (length p - 1 - i) 0 (omega (arith, within)) ∙ ap (λ k. get_or p k 0) (sym turned)

    no_longer : length p - 1 - i < suffix_len not_slash p → ⊥
    no_longer more = false≢true (sym slash ∙ ap not_slash (sym reversed) ∙ prefix_len_passes not_slash (reverse p) (length p - 1 - i) 0 more)

    by_test : (t : Bool) → nat_le (suffix_len not_slash p) (length p - 1 - i) ≡ t → suffix_len not_slash p ≤ length p - 1 - i
    by_test true e = grind (arith, nat_tests)
    by_test false e = absurd (no_longer (grind (arith, nat_tests)))

other_length : (xs ys : List ℕ) → length ys < length xs → bytes_eq xs ys ≡ false
other_length xs ys longer = by_test (bytes_eq xs ys) refl
  where
    by_test : (t : Bool) → bytes_eq xs ys ≡ t → t ≡ false
    by_test false e = refl
    by_test true e = absurd (omega (arith, ap length ((bytes_eq-Decides xs ys).0 e)))

and_none : (a b : Bool) → b ≡ false → (a && b) ≡ false
and_none true b h = h
and_none false b h = refl

-- a name that has a slash behind a directory's text and one byte is no child of it
too_deep : (d p : List ℕ) (i : ℕ) → length d < i → i < length p → not_slash (get_or p i 0) ≡ false → is_child d p ≡ false
too_deep d p i past within slash =
    let few = behind_slash p i within slash in
    let long : length (before_last is_slash p) ≡ length p - suffix_len not_slash p - 1 = length-take-le (length p - suffix_len not_slash p - 1) p (omega arith) in
    let some : bytes_eq (before_last is_slash p) [] ≡ false = other_length (before_last is_slash p) [] (omega (arith, long, few)) in
    let other : bytes_eq (before_last is_slash p) d ≡ false = other_length (before_last is_slash p) d (omega (arith, long, few)) in
    and_none (is_below d p) (bytes_eq (parent p) d) (ap (λ t. bytes_eq (cond t root (before_last is_slash p)) d) some ∙ other)

slash_is : (c : ℕ) → is_slash c ≡ true → not_slash c ≡ false
slash_is c e = ap not e

past_none : (d q k : List ℕ) → list_any is_slash (drop (length d + 1) q) ≡ true → is_child d (q ++ k) ≡ false
past_none d q k any =
    let behind = drop (length d + 1) q in
    let found = Any-from_list_any is_slash behind any in
    let j = found.0 in
    let within : length d + 1 + j < length q = omega (arith, found.2, length-drop (length d + 1) q) in
    let at : get_or (q ++ k) (length d + 1 + j) 0 ≡ found.1 = get_or_append_left q k 0 (length d + 1 + j) within ∙ sym (get_or-drop (length d + 1) q j 0) ∙ sym (get_or_default_zero behind j found.1 found.2) ∙ found.3 in
    too_deep d (q ++ k) (length d + 1 + j) (omega arith) (omega (arith, within, length-append q k)) (ap not_slash at ∙ slash_is found.1 found.4)

module _ {X : Type 0} where
  under_append : (f : List ℕ) (es fs : List (List ℕ × X)) → under f (es ++ fs) ≡ under f es ++ under f fs
  under_append f [] fs = refl
  under_append f (e ∷ es) fs = ap (λ xs. (f ++ e.0, e.1) ∷ xs) (under_append f es fs)

  under_twice : (f t : List ℕ) (es : List (List ℕ × X)) → under f (under t es) ≡ under (f ++ t) es
  under_twice f t [] = refl
  under_twice f t (e ∷ es) = λ i. (sym (joined f t e.0) i, e.1) ∷ under_twice f t es i

  -- what a front and a node's label stand before
  under_level : (f l : List ℕ) (v : Option X) (b n : List (List ℕ × X)) → under f (level l v b n) ≡ (under (f ++ l) (own v) ++ under (f ++ l) b) ++ under f n
  under_level f l v b n = under_append f (under l (own v ++ b)) n ∙ ap (λ xs. xs ++ under f n) (under_twice f l (own v ++ b) ∙ under_append (f ++ l) (own v) b)

  pub under_parts : (f l : List ℕ) (v : Option X) (b : List (List ℕ × X)) → under f (under l (own v ++ b)) ≡ under (f ++ l) (own v) ++ under (f ++ l) b
  under_parts f l v b = under_twice f l (own v ++ b) ∙ under_append (f ++ l) (own v) b

  with_append : (o : Option (List ℕ)) (v : X) (xs ys zs : List (List ℕ × X)) → zs ≡ xs ++ ys → with_rest o v zs ≡ with_rest o v xs ++ ys
  with_append None v xs ys zs h = h
  with_append (Some r) v xs ys zs h = ap (λ l. (r, v) ∷ l) h

  wanted_append : (d : Option Path) (es fs : List (List ℕ × X)) → wanted d (es ++ fs) ≡ wanted d es ++ wanted d fs
  wanted_append d [] fs = refl
  wanted_append d (e ∷ es) fs = with_append (name_in d e.0) e.1 (wanted d es) (wanted d fs) (wanted d (es ++ fs)) (wanted_append d es fs)

  -- one node further
  pub node_listed : (d : Option Path) (f l : List ℕ) (v : Option X) (b n xs : List (List ℕ × X)) → xs ++ wanted d (under f (level l v b n)) ≡ ((xs ++ wanted d (under (f ++ l) (own v))) ++ wanted d (under (f ++ l) b)) ++ wanted d (under f n)
  node_listed d f l v b n xs =
      let o = wanted d (under (f ++ l) (own v)) in
      let w = wanted d (under (f ++ l) b) in
      let m = wanted d (under f n) in
      ap (λ es. xs ++ es) (ap (wanted d) (under_level f l v b n) ∙ wanted_append d (under (f ++ l) (own v) ++ under (f ++ l) b) (under f n) ∙ ap (λ es. es ++ m) (wanted_append d (under (f ++ l) (own v)) (under (f ++ l) b)))
      ∙ sym (append_assoc xs (o ++ w) m) ∙ ap (λ es. es ++ m) (sym (append_assoc xs o w))

  pub place_listed : (d : Option Path) (f l : List ℕ) (v : Option X) (b xs : List (List ℕ × X)) → xs ++ wanted d (under f (under l (own v ++ b))) ≡ (xs ++ wanted d (under (f ++ l) (own v))) ++ wanted d (under (f ++ l) b)
  place_listed d f l v b xs =
      let o = wanted d (under (f ++ l) (own v)) in
      let w = wanted d (under (f ++ l) b) in
      ap (λ es. xs ++ es) (ap (wanted d) (under_parts f l v b) ∙ wanted_append d (under (f ++ l) (own v)) (under (f ++ l) b)) ∙ sym (append_assoc xs o w)

  -- what is too deep
  none_named : (d : List ℕ) (q : List ℕ) (es : List (List ℕ × X)) → list_any is_slash (drop (length d + 1) q) ≡ true → wanted (Some d) (under q es) ≡ []
  none_named d q [] h = refl
  none_named d q (e ∷ es) h = λ i. with_rest (cond (past_none d q e.0 h i) (Some (last_part (q ++ e.0))) None) e.1 (none_named d q es h i)

  none_wanted : (d : Option Path) (q : List ℕ) (es : List (List ℕ × X)) → is_past d q ≡ true → wanted d (under q es) ≡ []
  none_wanted None q es h = absurd (false≢true h)
  none_wanted (Some d) q es h = none_named d q es h

  pub none_listed : (d : Option Path) (q : List ℕ) (es xs : List (List ℕ × X)) → is_past d q ≡ true → xs ≡ xs ++ wanted d (under q es)
  none_listed d q es xs h = sym (ap (λ ys. xs ++ ys) (none_wanted d q es h) ∙ append-nil xs)

  -- names that are texts
  pub text_of_own : (p : List ℕ) (value : Option X) (v : X) → value ≡ Some v → are_texts (under p (own value)) ≡ true → is_utf8 p ≡ true
  text_of_own p value v is h = sym (ap is_utf8 (append-nil p)) ∙ and_first (is_utf8 (p ++ [])) true (ap (λ o. are_texts (under p (own o))) (sym is) ∙ h)

  texts_both : (es fs : List (List ℕ × X)) → are_texts (es ++ fs) ≡ true → (are_texts es ≡ true) × (are_texts fs ≡ true)
  texts_both es fs h =
      let both = sym (list_all-append (λ (e : List ℕ × X). is_utf8 e.0) es fs) ∙ h in
      (and_first (are_texts es) (are_texts fs) both, and_second (are_texts es) (are_texts fs) both)

  pub record AreTexts (f l : List ℕ) (v : Option X) (b : List (List ℕ × X)) : Type 0 where
    pub own_text : are_texts (under (f ++ l) (own v)) ≡ true
    pub below_texts : are_texts (under (f ++ l) b) ≡ true

  pub place_texts : (f l : List ℕ) (v : Option X) (b : List (List ℕ × X)) → are_texts (under f (under l (own v ++ b))) ≡ true → AreTexts f l v b
  place_texts f l v b h =
      let both = texts_both (under (f ++ l) (own v)) (under (f ++ l) b) (ap are_texts (sym (under_parts f l v b)) ∙ h) in
      record { own_text = both.0; below_texts = both.1 }

  pub node_texts : (f l : List ℕ) (v : Option X) (b n : List (List ℕ × X)) → are_texts (under f (level l v b n)) ≡ true → AreTexts f l v b
  node_texts f l v b n h = place_texts f l v b (texts_both (under f (under l (own v ++ b))) (under f n) (ap are_texts (sym (under_append f (under l (own v ++ b)) n)) ∙ h)).0

  pub next_texts : (f l : List ℕ) (v : Option X) (b n : List (List ℕ × X)) → are_texts (under f (level l v b n)) ≡ true → are_texts (under f n) ≡ true
  next_texts f l v b n h = (texts_both (under f (under l (own v ++ b))) (under f n) (ap are_texts (sym (under_append f (under l (own v ++ b)) n)) ∙ h)).1

  -- the two lists
  pub all_wanted : (es : List (List ℕ × X)) → wanted None es ≡ es
  all_wanted [] = refl
  all_wanted (e ∷ es) = ap (λ xs. e ∷ xs) (all_wanted es)

  child_if : (t : Bool) (d : Path) (e : List ℕ × X) (es : List (List ℕ × X)) → with_rest (cond t (Some (last_part e.0)) None) e.1 (map (λ (x : List ℕ × X). (last_part x.0, x.1)) es) ≡ map (λ (x : List ℕ × X). (last_part x.0, x.1)) (cond t (e ∷ es) es)
  child_if true d e es = refl
  child_if false d e es = refl

  pub children_wanted : (d : Path) (es : List (List ℕ × X)) → wanted (Some d) es ≡ child_entries d es
  children_wanted d [] = refl
  children_wanted d (e ∷ es) =
      ap (with_rest (name_in (Some d) e.0) e.1) (children_wanted d es) ∙ child_if (is_child d e.0) d e (filter (λ (x : List ℕ × X). is_child d x.0) es)
