-- Whether names go on behind a front.
use Rattle.std.proofs.Common.{◌≡◌, ℕ, ◌≤◌, Bor, Bool, true, false, not, cond, ◌==◌, ◌||◌, nat_eq, List, [], ◌∷◌, ◌++◌, length, Option, Some, None, is_some, MatchOption, slice_index_or, refl, sym, ap, ◌∙◌, arith}
use mathlib.Core.Bool.{false≢true}
use Rattle.std.proofs.lemmas.Bool.Decides.{nat_tests}
use Rattle.std.specs.List.{list_any}
use Rattle.gfs_types.specs.Paths.{root}
use Rattle.label_tree.specs.Entries.{AllFrom, under, own, is_nothing}
use Rattle.label_tree.specs.Nodes.{IsWhole}
use Rattle.label_tree.specs.declared.node.TrieNode.{TrieNode}
use Rattle.label_tree.specs.Behind.{rest_of, with_rest, behind, is_longer, has_more}

same_either : (x y : ℕ) → (x == y) ≡ (y == x)
same_either x y = by_test (x == y) refl
  where
    by_test : (t : Bool) → (x == y) ≡ t → t ≡ (y == x)
    by_test true e = grind (arith, nat_tests)
    by_test false e = grind (arith, nat_tests)

abbrev chain : Option (List ℕ) → List ℕ → Option (List ℕ)
chain None g = None
chain (Some r) g = rest_of g r

chain_if : (t : Bool) (o : Option (List ℕ)) (g : List ℕ) → cond t (chain o g) None ≡ chain (cond t o None) g
chain_if true o g = refl
chain_if false o g = refl

rest_chain : (f g n : List ℕ) → rest_of (f ++ g) n ≡ chain (rest_of f n) g
rest_chain [] g n = refl
rest_chain (c ∷ f) g [] = refl
rest_chain (c ∷ f) g (d ∷ n) = ap (λ o. cond (c == d) o None) (rest_chain f g n) ∙ chain_if (c == d) (rest_of f n) g

module _ {X : Type 0} where
  with_chain : (o : Option (List ℕ)) (g : List ℕ) (v : X) (xs : List (List ℕ × X)) → with_rest (chain o g) v (behind g xs) ≡ behind g (with_rest o v xs)
  with_chain None g v xs = refl
  with_chain (Some r) g v xs = refl

  -- a front in two parts
  pub behind_both : (f g : List ℕ) (es : List (List ℕ × X)) → behind (f ++ g) es ≡ behind g (behind f es)
  behind_both f g [] = refl
  behind_both f g (e ∷ es) = (λ i. with_rest (rest_chain f g e.0 i) e.1 (behind_both f g es i)) ∙ with_chain (rest_of f e.0) g e.1 (behind f es)

  pub under_nil : (es : List (List ℕ × X)) → under [] es ≡ es
  under_nil [] = refl
  under_nil (e ∷ es) = ap (λ xs. e ∷ xs) (under_nil es)

  pub nothing_under : (l : List ℕ) (es : List (List ℕ × X)) → 1 ≤ length es → is_nothing (under l es) ≡ false
  nothing_under l [] h = absurd (omega arith)
  nothing_under l (e ∷ es) h = refl

  slash_if : (t : Bool) (r : List ℕ) (v : X) (xs ys : List (List ℕ × X)) → (t ≡ false → xs ≡ []) → not (is_nothing (with_rest (cond t (Some r) None) v xs)) ≡ t
  slash_if true r v xs ys h = refl
  slash_if false r v xs ys h = ap (λ l. not (is_nothing l)) (h refl)

  none_slash : (c : ℕ) (r : List ℕ) (es : List (List ℕ × X)) → (47 == c) ≡ false → behind root (under (c ∷ r) es) ≡ []
  none_slash c r [] h = refl
  none_slash c r (e ∷ es) h = λ i. with_rest (cond (h i) (Some (r ++ e.0)) None) e.1 (none_slash c r es h i)

  -- behind a label's rest: whether it begins with a slash
  pub slash_under : (c : ℕ) (r : List ℕ) (es : List (List ℕ × X)) → 1 ≤ length es → not (is_nothing (behind root (under (c ∷ r) es))) ≡ (c == 47)
  slash_under c r [] h = absurd (omega arith)
  slash_under c r (e ∷ es) h = slash_if (47 == c) (r ++ e.0) e.1 (behind root (under (c ∷ r) es)) [] (none_slash c r es) ∙ same_either 47 c

  pub slash_own : (v : Option X) (es : List (List ℕ × X)) → behind root (own v ++ es) ≡ behind root es
  slash_own None es = refl
  slash_own (Some v) es = refl

  -- whether there is more
  pub more_under : (c : ℕ) (r : List ℕ) (es : List (List ℕ × X)) → 1 ≤ length es → list_any (λ e. is_longer e.0) (under (c ∷ r) es) ≡ true
  more_under c r [] h = absurd (omega arith)
  more_under c r (e ∷ es) h = refl

  more_below : (es : List (List ℕ × X)) → AllFrom 0 es → list_any (λ e. is_longer e.0) es ≡ not (is_nothing es)
  more_below [] h = refl
  more_below (e ∷ es) h = by_name e.0 h.0
    where
      by_name : (n : List ℕ) → Rattle.label_tree.specs.Entries.BeginsFrom 0 n → (is_longer n || list_any (λ x. is_longer x.0) es) ≡ true
      by_name [] p = absurd p
      by_name (d ∷ n) p = refl

  pub more_own : (v : Option X) (es : List (List ℕ × X)) → AllFrom 0 es → list_any (λ e. is_longer e.0) (own v ++ es) ≡ not (is_nothing es)
  more_own None es h = more_below es h
  more_own (Some v) es h = more_below es h

  -- a label's rest is more
  pub more_here : (f rest : List ℕ) (names es : List (List ℕ × X)) → behind f names ≡ under rest es → (length rest == 0) ≡ false → 1 ≤ length es → has_more f names ≡ true
  more_here f [] names es is h some = absurd (false≢true (sym h))
  more_here f (c ∷ rest) names es is h some = ap (list_any (λ e. is_longer e.0)) is ∙ more_under c rest es some

  -- a place is found just where names go on
  pub found_is : {Y : Type 0} (o : Option Y) (front : Y → List ℕ) (here : Y → List (List ℕ × X)) (names : List (List ℕ × X))
      → MatchOption o (names ≡ []) (λ p. names ≡ under (front p) (here p)) → MatchOption o (names ≡ []) (λ p. 1 ≤ length (here p)) → is_some o ≡ not (is_nothing names)
  found_is None front here names is some = sym (ap (λ l. not (is_nothing l)) is)
  found_is (Some p) front here names is some = sym (ap (λ l. not (is_nothing l)) is ∙ ap not (nothing_under (front p) (here p) some))

  -- a slash behind a front, by the rest of the label there
  pub slash_none : (f : List ℕ) (names : List (List ℕ × X)) → behind f names ≡ [] → false ≡ not (is_nothing (behind (f ++ root) names))
  slash_none f names is = sym (ap (λ l. not (is_nothing l)) (behind_both f root names ∙ ap (behind root) is))

  pub slash_below : (f rest : List ℕ) (v : Option X) (names below : List (List ℕ × X)) → behind f names ≡ under rest (own v ++ below) → length rest ≤ 0 → behind (f ++ root) names ≡ behind root below
  slash_below f [] v names below is h = behind_both f root names ∙ ap (behind root) (is ∙ under_nil (own v ++ below)) ∙ slash_own v below
  slash_below f (c ∷ rest) v names below is h = absurd (omega arith)

  pub slash_here : (f rest : List ℕ) (names es : List (List ℕ × X)) → behind f names ≡ under rest es → 1 ≤ length rest → 1 ≤ length es → nat_eq (slice_index_or rest 0 0) 47 ≡ not (is_nothing (behind (f ++ root) names))
  slash_here f [] names es is h some = absurd (omega arith)
  slash_here f (c ∷ rest) names es is h some = sym (ap (λ l. not (is_nothing l)) (behind_both f root names ∙ ap (behind root) is) ∙ slash_under c rest es some)

  -- what is said of a place, where there is one
  pub alive_there : {Y : Type 0} (o : Option (Y × Bor (TrieNode X (List (List ℕ × X))))) (names : List (List ℕ × X))
      → MatchOption o (names ≡ []) (λ p. IsWhole p.1.now) → MatchOption o (names ≡ []) (λ p. 1 ≤ length (own p.1.now.value ++ p.1.now.below))
  alive_there None names h = h
  alive_there (Some p) names h = h.alive
