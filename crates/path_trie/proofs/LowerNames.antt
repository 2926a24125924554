-- What lies below a directory, by the names behind its front.
use Rattle.std.proofs.Common.{◌≡◌, ◌≢◌, ℕ, Bool, true, false, not, cond, ◌==◌, ◌&&◌, ◌||◌, nat_eq, List, [], ◌∷◌, ◌++◌, Option, Some, None, is_some, T, refl, sym, ap, subst, ◌∙◌}
use mathlib.Core.Bool.{false≢true}
use Rattle.std.specs.Ordering.{nat_cmp, eq_by_cmp}
use Rattle.std.specs.Cmp.Lexicographic.{slice_cmp}
use Rattle.std.specs.FinMap.{entries, get}
use Rattle.std.specs.List.{list_any, starts_with}
use Rattle.std.specs.Str.{bytes_eq}
use Rattle.std.proofs.lemmas.Map.Text.{is_eq-slice_cmp}
use Rattle.std.proofs.lemmas.Slice.Eq.{bytes_eq-Decides}
use Rattle.gfs_types.specs.Paths.{root, is_below}
use Rattle.path_trie.specs.Texts.{Names}
use Rattle.path_trie.specs.Below.{has_below, has_at_or_below}
use Rattle.label_tree.specs.Entries.{find_path, is_nothing}
use Rattle.label_tree.specs.Behind.{rest_of, with_rest, behind, is_longer, has_more}
use Rattle.path_trie.specs.Counts.{IsCounted}
use Rattle.label_tree.proofs.Behind.{same_byte}
use Rattle.path_trie.proofs.Maps.{names_of, entries_names, get_names}

-- to begin with a front
and_if : (t : Bool) (o : Option (List ℕ)) → (t && is_some o) ≡ is_some (cond t o None)
and_if true o = refl
and_if false o = refl

pub begins_is : (f p : List ℕ) → starts_with nat_eq p f ≡ is_some (rest_of f p)
begins_is [] p = refl
begins_is (c ∷ f) [] = refl
begins_is (c ∷ f) (d ∷ p) = ap (λ b. (c == d) && b) (begins_is f p) ∙ and_if (c == d) (rest_of f p)

cond_none : (t : Bool) (o : Option (List ℕ)) → o ≡ None → cond t o None ≡ None
cond_none true o h = h
cond_none false o h = refl

too_short : (d : List ℕ) → rest_of (d ++ root) d ≡ None
too_short [] = refl
too_short (c ∷ d) = cond_none (c == c) (rest_of (d ++ root) d) (too_short d)

pub some_is : (r : List ℕ) → Some r ≢ None
some_is r e = subst (λ o. T (is_some o)) e tt

other_bytes : (p d : List ℕ) → p ≢ d → bytes_eq p d ≡ false
other_bytes p d apart =
    elim (bytes_eq p d) as (λ t. bytes_eq p d ≡ t → t ≡ false) [
      | true ↦ λ e. absurd (apart ((bytes_eq-Decides p d).0 e))
      | false ↦ λ e. refl
    ] refl

not_itself : (d p : List ℕ) (o : Option (List ℕ)) → rest_of (d ++ root) p ≡ o → (is_some o && not (bytes_eq p d)) ≡ is_some o
not_itself d p None h = refl
not_itself d p (Some r) h = ap not (other_bytes p d (λ e. some_is r (sym h ∙ ap (rest_of (d ++ root)) e ∙ too_short d)))

below_other : (d p : List ℕ) → bytes_eq d root ≡ false → is_below d p ≡ is_some (rest_of (d ++ root) p)
below_other d p e =
    (λ i. starts_with nat_eq p (cond (e i) root (d ++ root)) && not (bytes_eq p d))
    ∙ ap (λ b. b && not (bytes_eq p d)) (begins_is (d ++ root) p)
    ∙ not_itself d p (rest_of (d ++ root) p) refl

longer_is : (p : List ℕ) → not (bytes_eq p []) ≡ is_longer p
longer_is [] = refl
longer_is (c ∷ p) = refl

longer_in : Option (List ℕ) → Bool
longer_in None = false
longer_in (Some r) = is_longer r

below_root : (p : List ℕ) → is_below root p ≡ longer_in (rest_of root p)
unfolding longer_in
below_root [] = refl
below_root (c ∷ p) =
    elim (47 == c) as (λ t. (47 == c) ≡ t → is_below root (c ∷ p) ≡ longer_in (cond t (Some p) None)) [
      | true ↦ λ e. subst (λ x. is_below root (x ∷ p) ≡ is_longer p) (same_byte 47 c e) (longer_is p)
      | false ↦ λ e. ap (λ t. (t && true) && not (bytes_eq (c ∷ p) root)) e
    ] refl

or_swap : (a b c d : Bool) → ((a || b) || (c || d)) ≡ ((a || c) || (b || d))
or_swap true b c d = refl
or_swap false true true d = refl
or_swap false true false d = refl
or_swap false false c d = refl

bytes_turned : (p q : List ℕ) → bytes_eq p q ≡ bytes_eq q p
bytes_turned p q =
    elim (bytes_eq p q) as (λ t. bytes_eq p q ≡ t → t ≡ bytes_eq q p) [
      | true ↦ λ e. sym ((bytes_eq-Decides q p).1 (sym ((bytes_eq-Decides p q).0 e)))
      | false ↦ λ e. sym (other_bytes q p (λ s. false≢true (sym e ∙ (bytes_eq-Decides p q).1 (sym s))))
    ] refl

module _ {X : Type 0} where
  any_same : (p q : (List ℕ × X) → Bool) (es : List (List ℕ × X)) → ((e : List ℕ × X) → p e ≡ q e) → list_any p es ≡ list_any q es
  any_same p q [] h = refl
  any_same p q (e ∷ es) h = λ i. h e i || any_same p q es h i

  any_rest : (o : Option (List ℕ)) (v : X) (b : Bool) (xs : List (List ℕ × X)) → b ≡ not (is_nothing xs) → (is_some o || b) ≡ not (is_nothing (with_rest o v xs))
  any_rest None v b xs h = h
  any_rest (Some r) v b xs h = refl

  any_behind : (f : List ℕ) (es : List (List ℕ × X)) → list_any (λ e. is_some (rest_of f e.0)) es ≡ not (is_nothing (behind f es))
  any_behind f [] = refl
  any_behind f (e ∷ es) = any_rest (rest_of f e.0) e.1 (list_any (λ x. is_some (rest_of f x.0)) es) (behind f es) (any_behind f es)

  more_rest : (o : Option (List ℕ)) (v : X) (b : Bool) (xs : List (List ℕ × X)) → b ≡ list_any (λ e. is_longer e.0) xs → (longer_in o || b) ≡ list_any (λ e. is_longer e.0) (with_rest o v xs)
  unfolding longer_in
  more_rest None v b xs h = h
  more_rest (Some r) v b xs h = ap (λ t. is_longer r || t) h

  any_longer : (es : List (List ℕ × X)) → list_any (λ e. longer_in (rest_of root e.0)) es ≡ has_more root es
  any_longer [] = refl
  any_longer (e ∷ es) = more_rest (rest_of root e.0) e.1 (list_any (λ x. longer_in (rest_of root x.0)) es) (behind root es) (any_longer es)

  -- the entries of the map are the tree's names
  pub these : (es : List (List ℕ × X)) (count : ℕ) (names : Names X) → IsCounted es count → names_of es ≡ names → es ≡ entries names
  these es count names h is = sym (entries_names es h.sorted) ∙ ap entries is

  pub any_below_root : (es : List (List ℕ × X)) (count : ℕ) (names : Names X) (d : List ℕ) → IsCounted es count → names_of es ≡ names → d ≡ root → has_more d es ≡ has_below names d
  any_below_root es count names d h is at =
      ap (λ f. has_more f es) at ∙ sym (any_longer es) ∙ sym (any_same (λ e. is_below root e.0) (λ e. longer_in (rest_of root e.0)) es (λ e. below_root e.0))
      ∙ (λ i. list_any (λ e. is_below (sym at i) e.0) (these es count names h is i))

  pub any_below : (es : List (List ℕ × X)) (count : ℕ) (names : Names X) (d : List ℕ) → IsCounted es count → names_of es ≡ names → bytes_eq d root ≡ false → not (is_nothing (behind (d ++ root) es)) ≡ has_below names d
  any_below es count names d h is other =
      sym (any_behind (d ++ root) es) ∙ sym (any_same (λ e. is_below d e.0) (λ e. is_some (rest_of (d ++ root) e.0)) es (λ e. below_other d e.0 other))
      ∙ ap (list_any (λ e. is_below d e.0)) (these es count names h is)

  -- at a path or below it
  any_or : (p q : (List ℕ × X) → Bool) (es : List (List ℕ × X)) → list_any (λ e. p e || q e) es ≡ (list_any p es || list_any q es)
  any_or p q [] = refl
  any_or p q (e ∷ es) = ap (λ b. (p e || q e) || b) (any_or p q es) ∙ or_swap (p e) (q e) (list_any p es) (list_any q es)

  some_if : (t : Bool) (v : X) (o : Option X) → (t || is_some o) ≡ is_some (cond t (Some v) o)
  some_if true v o = refl
  some_if false v o = refl

  any_at : (p : List ℕ) (es : List (List ℕ × X)) → list_any (λ e. bytes_eq e.0 p) es ≡ is_some (find_path p es)
  any_at p [] = refl
  any_at p (e ∷ es) =
      (λ i. (bytes_turned e.0 p ∙ sym (is_eq-slice_cmp p e.0)) i || any_at p es i) ∙ some_if (eq_by_cmp (slice_cmp nat_cmp) p e.0) e.1 (find_path p es)

  pub at_or_below : (es : List (List ℕ × X)) (count : ℕ) (names : Names X) (p : List ℕ) → IsCounted es count → names_of es ≡ names → has_at_or_below names p ≡ (is_some (get names p) || has_below names p)
  at_or_below es count names p h is =
      any_or (λ e. bytes_eq e.0 p) (λ e. is_below p e.0) (entries names)
      ∙ ap (λ b. b || has_below names p) (ap (list_any (λ e. bytes_eq e.0 p)) (sym (these es count names h is)) ∙ any_at p es ∙ ap is_some (sym (get_names es p) ∙ ap (λ m. get m p) is))
