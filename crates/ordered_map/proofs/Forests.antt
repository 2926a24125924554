-- What is found in leaves that lie one after another, and what becomes of it where one of them changes.
use Rattle.std.proofs.Common.{◌≡◌, ◌≢◌, ℕ, ◌/◌, ◌<◌, cond, T, List, [], ◌∷◌, ◌++◌, Option, Some, None, refl, sym, ap, subst, ◌∙◌, arith}
use Rattle.std.specs.declared.cmp.Ordering.TheVariants.{Less}
use Rattle.std.specs.Ordering.{nat_cmp, is_lt, eq_by_cmp}
use Rattle.std.specs.Cmp.{nat_cmp_total}
use Rattle.std.specs.FinMap.{FinMap, find, entries, entries_sorted, empty, get, insert, from_sorted, entries-from_sorted, get-entries, get-from_sorted, get-empty, same_map, nat_cmp-IsAntisymmetric}
use Rattle.std.specs.FinMap.Entries.{below_all, is_sorted}
use Rattle.std.proofs.lemmas.Bool.{cases_eq}
use Rattle.std.proofs.lemmas.Bool.Decides.{nat_tests}
use Rattle.std.proofs.Math.Logic.{⊎_elim}
use Rattle.std.specs.Map.{lookup}
use Rattle.std.specs.BTreeMap.{is_at}
use Rattle.ordered_map.specs.Places.{at_number}
use Rattle.ordered_map.proofs.Maps.{find_lookup}
use Rattle.ordered_map.proofs.NumberPlaces.{same_number, other_number, get-at_number, at_another}
use Rattle.ordered_map.specs.Rising.{IsRising, flat, IsTied, IsForest}
use Rattle.ordered_map.proofs.Places.{first, second, both, less, after_lt, not_below}

lt_less : (a b : ℕ) → a < b → T (is_lt (nat_cmp a b))
lt_less a b h = subst (λ r. T (is_lt r)) (sym (less_of a b h)) tt
  where
    less_of : (a b : ℕ) → a < b → nat_cmp a b ≡ Less
    less_of a b h = grind (arith, nat_tests)

module _ {X : Type 0} where
  find_here : (q : ℕ) (e : ℕ × X) (es : List (ℕ × X)) → q ≡ e.0 → find nat_cmp q (e ∷ es) ≡ Some e.1
  find_here q e es is = ap (λ j. find nat_cmp j (e ∷ es)) is ∙ ap (λ b. cond b (Some e.1) (find nat_cmp e.0 es)) (same_number e.0)

  find_there : (q : ℕ) (e : ℕ × X) (es : List (ℕ × X)) → q ≢ e.0 → find nat_cmp q (e ∷ es) ≡ find nat_cmp q es
  find_there q e es ne = ap (λ b. cond b (Some e.1) (find nat_cmp q es)) (other_number q e.0 ne)

  some_none : (v : X) → Some v ≢ None
  some_none v e = cc

  not_first : (q : ℕ) (xs ys : List (ℕ × X)) → find nat_cmp q xs ≡ None → find nat_cmp q (xs ++ ys) ≡ find nat_cmp q ys
  not_first q [] ys h = refl
  not_first q (x ∷ xs) ys h =
      ⊎_elim
      (λ is. absurd (some_none x.1 (sym (find_here q x xs is) ∙ h)))
      (λ ne. find_there q x (xs ++ ys) ne ∙ not_first q xs ys (sym (find_there q x xs ne) ∙ h))
      (cases_eq q x.0)

  in_first : (q : ℕ) (xs ys : List (ℕ × X)) (v : X) → find nat_cmp q xs ≡ Some v → find nat_cmp q (xs ++ ys) ≡ Some v
  in_first q [] ys v h = cc
  in_first q (x ∷ xs) ys v h =
      ⊎_elim
      (λ is. find_here q x (xs ++ ys) is ∙ sym (find_here q x xs is) ∙ h)
      (λ ne. find_there q x (xs ++ ys) ne ∙ in_first q xs ys v (sym (find_there q x xs ne) ∙ h))
      (cases_eq q x.0)

  -- what is found in the tail of a list is found in the list
  found_more : (q : ℕ) (e : ℕ × X) (es : List (ℕ × X)) → find nat_cmp q es ≢ None → find nat_cmp q (e ∷ es) ≢ None
  found_more q e es h none =
      ⊎_elim
      (λ is. some_none e.1 (sym (find_here q e es is) ∙ none))
      (λ ne. h (sym (find_there q e es ne) ∙ none))
      (cases_eq q e.0)

  found_first : (e : ℕ × X) (es : List (ℕ × X)) → find nat_cmp e.0 (e ∷ es) ≢ None
  found_first e es none = some_none e.1 (sym (find_here e.0 e es refl) ∙ none)

  above : (x q : ℕ) (es : List (ℕ × X)) → T (below_all nat_cmp x es) → find nat_cmp q es ≢ None → x < q
  above x q [] h some = absurd (some refl)
  above x q (e ∷ es) h some =
      ⊎_elim
      (λ is. subst (λ j. x < j) (sym is) (after_lt x e.0 (less _ (first _ _ h))))
      (λ ne. above x q es (second _ _ h) (λ none. some (find_there q e es ne ∙ none)))
      (cases_eq q e.0)

  all_above : (x : ℕ) (es : List (ℕ × X)) → ((j : ℕ) → find nat_cmp j es ≢ None → x < j) → T (below_all nat_cmp x es)
  all_above x [] h = tt
  all_above x (e ∷ es) h = both _ _ (lt_less x e.0 (h e.0 (found_first e es))) (all_above x es (λ j some. h j (found_more j e es some)))

  joined : (xs ys : List (ℕ × X)) → IsRising xs → IsRising ys → ((k j : ℕ) → find nat_cmp k xs ≢ None → find nat_cmp j ys ≢ None → k < j) → IsRising (xs ++ ys)
  joined [] ys p q h = q
  joined (x ∷ xs) ys p q h =
      both _ _ (all_above x.0 (xs ++ ys) (λ j some. in_either j some)) (joined xs ys (second _ _ p) q (λ k j a b. h k j (found_more k x xs a) b))
    where
      in_either : (j : ℕ) → find nat_cmp j (xs ++ ys) ≢ None → x.0 < j
      in_either j some =
          elim (find nat_cmp j xs) as (λ o. find nat_cmp j xs ≡ o → x.0 < j) [
            | None ↦ λ e. h x.0 j (found_first x xs) (λ none. some (not_first j xs ys e ∙ none))
            | Some v ↦ λ e. above x.0 j xs (first _ _ p) (λ none. some_none v (sym e ∙ none))
          ] refl

module _ {X : Type 0} where
  -- the value at a number in a leaf, if there is one
  abbrev pub value_in : Option (FinMap nat_cmp X) → ℕ → Option X
  value_in None q = None
  value_in (Some m) q = get m q

  tied_tail : (e : ℕ × FinMap nat_cmp X) (es : List (ℕ × FinMap nat_cmp X)) → IsRising (e ∷ es) → IsTied (e ∷ es) → IsTied es
  tied_tail e es r t b m is =
      t b m (find_there b e es (λ eq. absent (sym is ∙ ap (λ j. find nat_cmp j es) eq ∙ not_below e.0 es (first _ _ r))) ∙ is)
    where
      absent : Some m ≢ None
      absent e = cc

  find_flat : (es : List (ℕ × FinMap nat_cmp X)) → IsRising es → IsTied es → (q : ℕ) → find nat_cmp q (flat es) ≡ value_in (find nat_cmp (q / 128) es) q
  find_flat [] r t q = refl
  find_flat (e ∷ es) r t q =
      let rest = find_flat es (second _ _ r) (tied_tail e es r t) q in
      ⊎_elim
      (λ is.
      let gone : find nat_cmp q (flat es) ≡ None = rest ∙ ap (λ o. value_in o q) (ap (λ j. find nat_cmp j es) is ∙ not_below e.0 es (first _ _ r)) in
      elim (get e.1 q) as (λ o. get e.1 q ≡ o → find nat_cmp q (entries e.1 ++ flat es) ≡ o) [
        | None ↦ λ eq. not_first q (entries e.1) (flat es) (sym (get-entries e.1 q) ∙ eq) ∙ gone
        | Some v ↦ λ eq. in_first q (entries e.1) (flat es) v (sym (get-entries e.1 q) ∙ eq)
      ] refl ∙ sym (ap (λ o. value_in o q) (find_here (q / 128) e es is)))
      (λ ne. not_first q (entries e.1) (flat es) (sym (get-entries e.1 q) ∙ t e.0 e.1 (find_here e.0 e es refl) q ne) ∙ rest ∙ ap (λ o. value_in o q) (sym (find_there (q / 128) e es ne)))
      (cases_eq (q / 128) e.0)

  rising_flat : (es : List (ℕ × FinMap nat_cmp X)) → IsRising es → IsTied es → IsRising (flat es)
  rising_flat [] r t = tt
  rising_flat (e ∷ es) r t = joined (entries e.1) (flat es) (entries_sorted e.1) (rising_flat es (second _ _ r) (tied_tail e es r t)) (λ k j a b.
      let home : k / 128 ≡ e.0 = ⊎_elim (λ is. is) (λ ne. absurd (a (sym (get-entries e.1 k) ∙ t e.0 e.1 (find_here e.0 e es refl) k ne))) (cases_eq (k / 128) e.0) in
      let later : e.0 < j / 128 = above e.0 (j / 128) es (first (below_all nat_cmp e.0 es) (is_sorted nat_cmp es) r) (λ none. b (find_flat es (second _ _ r) (tied_tail e es r t) j ∙ ap (λ o. value_in o j) none)) in
      omega arith)

  abbrev pub forest : List (ℕ × FinMap nat_cmp X) → FinMap nat_cmp X
  forest es = from_sorted (flat es)

  pub entries-forest : (es : List (ℕ × FinMap nat_cmp X)) → IsForest es → entries (forest es) ≡ flat es
  entries-forest es p = entries-from_sorted nat_cmp (flat es) (rising_flat es p.rising p.tied)

  get-forest : (es : List (ℕ × FinMap nat_cmp X)) → IsForest es → (q : ℕ) → get (forest es) q ≡ value_in (find nat_cmp (q / 128) es) q
  get-forest es p q = get-from_sorted nat_cmp (flat es) q (rising_flat es p.rising p.tied) ∙ find_flat es p.rising p.tied q

  pub no_leaves : IsForest {X = X} []
  no_leaves = record { rising = tt; tied = λ b m is k ne. cc }

  -- fs has w as its leaf b, and else what es has
  abbrev pub OneLeaf : ℕ → Option (FinMap nat_cmp X) → List (ℕ × FinMap nat_cmp X) → List (ℕ × FinMap nat_cmp X) → Type 0
  OneLeaf b w es fs = (q : ℕ) → lookup (is_at (nat_cmp q)) fs ≡ cond (is_at (nat_cmp b) q) w (lookup (is_at (nat_cmp q)) es)

  module _ (b : ℕ) (w : Option (FinMap nat_cmp X)) (es fs : List (ℕ × FinMap nat_cmp X)) (h : OneLeaf b w es fs) where
    that_leaf : find nat_cmp b fs ≡ w
    that_leaf = find_lookup nat_cmp fs b ∙ h b ∙ ap (λ t. cond t w (lookup (is_at (nat_cmp b)) es)) (same_number b)

    other_leaf : (q : ℕ) → q ≢ b → find nat_cmp q fs ≡ find nat_cmp q es
    other_leaf q ne = find_lookup nat_cmp fs q ∙ h q ∙ ap (λ t. cond t w (lookup (is_at (nat_cmp q)) es)) (other_number b q (λ e. ne (sym e))) ∙ sym (find_lookup nat_cmp es q)

    tied_kept : IsTied es → ((m : FinMap nat_cmp X) → w ≡ Some m → (k : ℕ) → k / 128 ≢ b → get m k ≡ None) → IsTied fs
    tied_kept t own c m is k ne =
        ⊎_elim
        (λ same. own m (sym that_leaf ∙ ap (λ j. find nat_cmp j fs) (sym same) ∙ is) k (λ e. ne (e ∙ sym same)))
        (λ other. t c m (sym (other_leaf c other) ∙ is) k ne)
        (cases_eq c b)

    leaf_kept : IsForest es → IsForest fs → ((q : ℕ) → value_in w q ≡ value_in (find nat_cmp b es) q) → forest fs ≡ forest es
    leaf_kept p r same = same_map nat_cmp_total nat_cmp-IsAntisymmetric _ _ (λ q.
        get-forest fs r q
        ∙ ⊎_elim
        (λ is. ap (λ j. value_in (find nat_cmp j fs) q) is ∙ ap (λ t. value_in t q) that_leaf ∙ same q ∙ ap (λ j. value_in (find nat_cmp j es) q) (sym is))
        (λ ne. ap (λ t. value_in t q) (other_leaf (q / 128) ne))
        (cases_eq (q / 128) b)
        ∙ sym (get-forest es p q))

  leaf_changed : (k : ℕ) (o : Option X) (w : Option (FinMap nat_cmp X)) (es fs : List (ℕ × FinMap nat_cmp X)) → OneLeaf (k / 128) w es fs → IsForest es → IsForest fs
      → ((q : ℕ) → value_in w q ≡ cond (eq_by_cmp nat_cmp q k) o (value_in (find nat_cmp (k / 128) es) q)) → forest fs ≡ at_number (forest es) k o
  leaf_changed k o w es fs h p r change = same_map nat_cmp_total nat_cmp-IsAntisymmetric _ _ (λ q.
      ⊎_elim
      (λ same. get-forest fs r q ∙ ap (λ j. value_in (find nat_cmp j fs) q) same ∙ ap (λ t. value_in t q) (that_leaf (k / 128) w es fs h) ∙ change q
      ∙ ap (cond (eq_by_cmp nat_cmp q k) o) (ap (λ j. value_in (find nat_cmp j es) q) (sym same) ∙ sym (get-forest es p q)) ∙ sym (get-at_number (forest es) k o q))
      (λ other. get-forest fs r q ∙ ap (λ t. value_in t q) (other_leaf (k / 128) w es fs h (q / 128) other) ∙ sym (get-forest es p q)
      ∙ sym (at_another (forest es) k o q (λ e. other (ap (λ j. j / 128) e))))
      (cases_eq (q / 128) (k / 128)))

  module _ (k : ℕ) (es : List (ℕ × FinMap nat_cmp X)) (p : IsForest es) where
    pub found_in : (o : Option (FinMap nat_cmp X)) → o ≡ lookup (is_at (nat_cmp (k / 128))) es → value_in o k ≡ get (forest es) k
    found_in o is = ap (λ t. value_in t k) (is ∙ sym (find_lookup nat_cmp es (k / 128))) ∙ sym (get-forest es p k)

    module _ (fs : List (ℕ × FinMap nat_cmp X)) (b m : FinMap nat_cmp X) (was : Some b ≡ lookup (is_at (nat_cmp (k / 128))) es) (h : OneLeaf (k / 128) (Some m) es fs) (rise : IsRising fs) where
      was_found : find nat_cmp (k / 128) es ≡ Some b
      was_found = find_lookup nat_cmp es (k / 128) ∙ sym was

      whole : ((q : ℕ) → q / 128 ≢ k / 128 → get m q ≡ None) → IsForest fs
      whole own = record { rising = rise; tied = tied_kept (k / 128) (Some m) es fs h p.tied (λ n is q ne. ap (λ t. get t q) (same_leaf n is) ∙ own q ne) }
        where
          same_leaf : (n : FinMap nat_cmp X) → Some m ≡ Some n → n ≡ m
          same_leaf n e = cc

      -- the leaf changed at the number
      pub changed_whole : (o : Option X) → m ≡ at_number b k o → IsForest fs
      changed_whole o is = whole (λ q ne. ap (λ t. get t q) is ∙ at_another b k o q (λ e. ne (ap (λ j. j / 128) e)) ∙ p.tied (k / 128) b was_found q ne)

      pub changed_to : (o : Option X) → m ≡ at_number b k o → forest fs ≡ at_number (forest es) k o
      changed_to o is = leaf_changed k o (Some m) es fs h p (changed_whole o is) (λ q.
          ap (λ t. get t q) is ∙ get-at_number b k o q ∙ ap (λ t. cond (eq_by_cmp nat_cmp q k) o (value_in t q)) (sym was_found))

      -- it was lent, and stayed
      pub kept_whole : m ≡ b → IsForest fs
      kept_whole is = whole (λ q ne. ap (λ t. get t q) is ∙ p.tied (k / 128) b was_found q ne)

      pub kept_at : m ≡ b → forest fs ≡ forest es
      kept_at is = leaf_kept (k / 128) (Some m) es fs h p (kept_whole is) (λ q. ap (λ t. get t q) is ∙ ap (λ t. value_in t q) (sym was_found))

      -- it has no entry left, and was let go
      module _ (gs : List (ℕ × FinMap nat_cmp X)) (r : IsForest fs) (none : m ≡ empty) (g : OneLeaf (k / 128) None fs gs) (rose : IsRising gs) where
        pub let_go_whole : IsForest gs
        let_go_whole = record { rising = rose; tied = tied_kept (k / 128) None fs gs g r.tied (λ n is q ne. cc) }

        pub let_go : forest gs ≡ forest fs
        let_go = leaf_kept (k / 128) None fs gs g r let_go_whole (λ q.
            sym (get-empty nat_cmp q) ∙ ap (λ t. get t q) (sym none) ∙ ap (λ t. value_in t q) (sym (that_leaf (k / 128) (Some m) es fs h)))

    -- the first number of a new leaf
    module _ (fs : List (ℕ × FinMap nat_cmp X)) (m : FinMap nat_cmp X) (v : X) (was : None ≡ lookup (is_at (nat_cmp (k / 128))) es) (h : OneLeaf (k / 128) (Some m) es fs) (rise : IsRising fs) (is : m ≡ insert empty k v) where
      pub first_whole : IsForest fs
      first_whole = record {
        rising = rise;
        tied = tied_kept (k / 128) (Some m) es fs h p.tied (λ n e q ne.
            ap (λ t. get t q) (same_leaf n e ∙ is) ∙ at_another empty k (Some v) q (λ e. ne (ap (λ j. j / 128) e)) ∙ get-empty nat_cmp q);
      }
        where
          same_leaf : (n : FinMap nat_cmp X) → Some m ≡ Some n → n ≡ m
          same_leaf n e = cc

      pub first_of : forest fs ≡ insert (forest es) k v
      first_of = leaf_changed k (Some v) (Some m) es fs h p first_whole (λ q.
          ap (λ t. get t q) is ∙ get-at_number empty k (Some v) q
          ∙ ap (cond (eq_by_cmp nat_cmp q k) (Some v)) (get-empty nat_cmp q ∙ ap (λ t. value_in t q) (was ∙ sym (find_lookup nat_cmp es (k / 128)))))
