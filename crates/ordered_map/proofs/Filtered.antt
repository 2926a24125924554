-- The entries of a map that pass a test, or become others: what a look-up finds, and what the entries are.
use Rattle.std.proofs.Common.{◌≡◌, ℕ, Bool, true, false, cond, ◌&&◌, T, List, [], ◌∷◌, map, filter, Option, Some, None, refl, sym, ap, subst, ◌∙◌, arith}
use Rattle.std.specs.declared.cmp.Ordering.{Ordering}
use Rattle.std.specs.declared.cmp.Ordering.TheVariants.{Less, Equal, Greater}
use Rattle.std.specs.Ordering.{nat_cmp, is_lt, is_eq, eq_by_cmp}
use Rattle.std.specs.Option.{option_map}
use Rattle.std.specs.Cmp.{nat_cmp_total}
use Rattle.std.specs.FinMap.{FinMap, find, is_sorted, get, entries, entries_sorted, from_entries, from_sorted, get-entries, get-from_entries, get-from_sorted, entries-from_sorted, same_map, nat_cmp-IsAntisymmetric}
use Rattle.std.specs.FinMap.Entries.{below_all}

both : (a b : Bool) → T a → T b → T (a && b)
both true b p q = q
both false b p q = absurd p

first : (a b : Bool) → T (a && b) → T a
first true b p = tt
first false b p = p

second : (a b : Bool) → T (a && b) → T b
second true b p = p
second false b p = absurd p

not_tied : (r : Ordering) → T (is_lt r) → is_eq r ≡ false
not_tied Less h = refl
not_tied Equal h = absurd h
not_tied Greater h = absurd h

tied : (r : Ordering) → is_eq r ≡ true → r ≡ Equal
tied Less h = cc
tied Equal h = refl
tied Greater h = cc

module _ {X : Type 0} where
  -- what a look-up finds, where it passes
  abbrev pub kept : (ℕ × X → Bool) → ℕ → Option X → Option X
  kept P q None = None
  kept P q (Some v) = cond (P (q, v)) (Some v) None

  below_find : (k : ℕ) (es : List (ℕ × X)) → T (below_all nat_cmp k es) → find nat_cmp k es ≡ None
  below_find k [] h = refl
  below_find k (e ∷ es) h =
      ap (λ b. cond b (Some e.1) (find nat_cmp k es)) (not_tied (nat_cmp k e.0) (first _ _ h)) ∙ below_find k es (second _ _ h)

  below_filter : (k : ℕ) (P : ℕ × X → Bool) (es : List (ℕ × X)) → T (below_all nat_cmp k es) → T (below_all nat_cmp k (filter P es))
  below_filter k P [] h = tt
  below_filter k P (e ∷ es) h =
      let rest = below_filter k P es (second _ _ h) in
      elim (P e) as (λ b. T (below_all nat_cmp k (cond b (e ∷ filter P es) (filter P es)))) [ true ↦ both _ _ (first _ _ h) rest | false ↦ rest ]

  pub sorted_filter : (P : ℕ × X → Bool) (es : List (ℕ × X)) → T (is_sorted nat_cmp es) → T (is_sorted nat_cmp (filter P es))
  sorted_filter P [] h = tt
  sorted_filter P (e ∷ es) h =
      let rest = sorted_filter P es (second _ _ h) in
      elim (P e) as (λ b. T (is_sorted nat_cmp (cond b (e ∷ filter P es) (filter P es)))) [ true ↦ both _ _ (below_filter e.0 P es (first _ _ h)) rest | false ↦ rest ]

  at_head : (P : ℕ × X → Bool) (e : ℕ × X) (es : List (ℕ × X)) (b : Bool) → P e ≡ b → find nat_cmp e.0 (filter P es) ≡ None
      → eq_by_cmp nat_cmp e.0 e.0 ≡ true → find nat_cmp e.0 (cond b (e ∷ filter P es) (filter P es)) ≡ cond b (Some e.1) None
  at_head P e es true p none same = ap (λ t. cond t (Some e.1) (find nat_cmp e.0 (filter P es))) same
  at_head P e es false p none same = none

  past_head : (P : ℕ × X → Bool) (q : ℕ) (e : ℕ × X) (es : List (ℕ × X)) (b : Bool) → eq_by_cmp nat_cmp q e.0 ≡ false
      → find nat_cmp q (cond b (e ∷ filter P es) (filter P es)) ≡ find nat_cmp q (filter P es)
  past_head P q e es true other = ap (λ t. cond t (Some e.1) (find nat_cmp q (filter P es))) other
  past_head P q e es false other = refl

  by_key : (P : ℕ × X → Bool) (q : ℕ) (e : ℕ × X) (es : List (ℕ × X)) (t : Bool) → eq_by_cmp nat_cmp q e.0 ≡ t → T (below_all nat_cmp e.0 es)
      → find nat_cmp q (filter P es) ≡ kept P q (find nat_cmp q es)
      → find nat_cmp q (cond (P e) (e ∷ filter P es) (filter P es)) ≡ kept P q (cond t (Some e.1) (find nat_cmp q es))
  by_key P q e es true h below rest =
      let same : q ≡ e.0 = nat_cmp-IsAntisymmetric q e.0 (tied (nat_cmp q e.0) h) in
      let none : find nat_cmp e.0 (filter P es) ≡ None = below_find e.0 (filter P es) (below_filter e.0 P es below) in
      subst (λ k. eq_by_cmp nat_cmp k e.0 ≡ true → find nat_cmp k (cond (P e) (e ∷ filter P es) (filter P es)) ≡ cond (P (k, e.1)) (Some e.1) None) (sym same)
      (at_head P e es (P e) refl none) h
  by_key P q e es false h below rest = past_head P q e es (P e) h ∙ rest

  pub find_filter : (P : ℕ × X → Bool) (q : ℕ) (es : List (ℕ × X)) → T (is_sorted nat_cmp es) → find nat_cmp q (filter P es) ≡ kept P q (find nat_cmp q es)
  find_filter P q [] h = refl
  find_filter P q (e ∷ es) h = by_key P q e es _ refl (first _ _ h) (find_filter P q es (second _ _ h))

  pub find_map : {Y : Type 0} (f : X → Y) (q : ℕ) (es : List (ℕ × X)) → find nat_cmp q (map (λ e. (e.0, f e.1)) es) ≡ option_map f (find nat_cmp q es)
  find_map f q [] = refl
  find_map f q (e ∷ es) =
      elim (eq_by_cmp nat_cmp q e.0) as (λ b. cond b (Some (f e.1)) (find nat_cmp q (map (λ e. (e.0, f e.1)) es)) ≡ option_map f (cond b (Some e.1) (find nat_cmp q es))) [
        | true ↦ refl
        | false ↦ find_map f q es
      ]

  -- the entries of a map that is made of some that rise
  pub entries_from : (es : List (ℕ × X)) → T (is_sorted nat_cmp es) → entries (from_entries {R = nat_cmp} es) ≡ es
  entries_from es h =
      let same : from_entries {R = nat_cmp} es ≡ from_sorted es = same_map nat_cmp_total nat_cmp-IsAntisymmetric _ _ (λ q. get-from_entries nat_cmp_total es q ∙ sym (get-from_sorted nat_cmp es q h)) in
      ap entries same ∙ entries-from_sorted nat_cmp es h

  -- the entries that pass
  pub entries_filter : (P : ℕ × X → Bool) (m : FinMap nat_cmp X) → entries (from_entries {R = nat_cmp} (filter P (entries m))) ≡ filter P (entries m)
  entries_filter P m = entries_from (filter P (entries m)) (sorted_filter P (entries m) (entries_sorted m))

  -- a look-up among the entries that pass
  pub get_filter : (P : ℕ × X → Bool) (m : FinMap nat_cmp X) (q : ℕ) → get (from_entries {R = nat_cmp} (filter P (entries m))) q ≡ kept P q (get m q)
  get_filter P m q = get-from_entries nat_cmp_total (filter P (entries m)) q ∙ find_filter P q (entries m) (entries_sorted m) ∙ ap (kept P q) (sym (get-entries m q))

  -- a look-up where each value became another
  pub get_map : (f : X → X) (m : FinMap nat_cmp X) (q : ℕ) → get (from_entries {R = nat_cmp} (map (λ e. (e.0, f e.1)) (entries m))) q ≡ option_map f (get m q)
  get_map f m q = get-from_entries nat_cmp_total (map (λ e. (e.0, f e.1)) (entries m)) q ∙ find_map f q (entries m) ∙ ap (option_map f) (sym (get-entries m q))
