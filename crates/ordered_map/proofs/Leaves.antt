-- A leaf's finite map, by its entries.
use Rattle.std.proofs.Common.{◌≡◌, ℕ, ◌<◌, Bool, true, false, not, cond, T, List, [], ◌∷◌, length, Option, Some, None, is_some, refl, sym, ap, subst, ◌∙◌, arith}
use Rattle.std.specs.Prelude.{slice_get, slice_set, slice_index_or}
use Rattle.std.specs.Option.{option_map}
use Rattle.std.proofs.Math.Facts.{eqb_yes}
use Rattle.std.proofs.lemmas.Option.{slice_get_read}
use Rattle.std.specs.declared.cmp.Ordering.TheVariants.{Less, Equal, Greater}
use Rattle.std.specs.List as list
use Rattle.std.specs.declared.cmp.Ordering.{Ordering}
use Rattle.std.specs.Ordering.{nat_cmp, is_eq, eq_by_cmp}
use Rattle.std.specs.Cmp.{nat_cmp_total, eq_by_cmp_equiv, alike_right}
use Rattle.std.specs.FinMap.{FinMap, find, put, entries, empty, get, insert, remove, from_sorted, entries-from_sorted, get-from_sorted, entries-insert, get-remove, len-entries, len-empty, same_entries_map, same_map, nat_cmp-IsAntisymmetric}
use Rattle.std.specs.FinMap.Entries.{is_sorted-put, is_sorted-where_key, find-where_key}
use Rattle.ordered_map.specs.Rising.{IsRising, count_below, has_key}
use Rattle.ordered_map.proofs.Places.{value_of, found, others, hit_within, hit_put, hit_taken}

turned : {A : Type 0} (b : Bool) (x y : A) → cond (not b) x y ≡ cond b y x
turned true x y = refl
turned false x y = refl

tied : (r : Ordering) → is_eq r ≡ true → r ≡ Equal
tied Less h = cc
tied Equal h = refl
tied Greater h = cc

key_of : {X : Type 0} (k : ℕ) (x : ℕ × X) (o : Option (ℕ × X)) → has_key k o ≡ true → o ≡ Some x → x.0 ≡ k
key_of k x o h e = eqb_yes (subst T (sym (ap (has_key k) (sym e) ∙ h)) tt)

pub no_length : {A : Type 0} (es : List A) → length es ≡ 0 → es ≡ []
no_length [] e = refl
no_length (x ∷ es) e = absurd (omega arith)

module _ {X : Type 0} where
  pub no_entries : from_sorted [] ≡ empty {X = X} {R = nat_cmp}
  no_entries = same_entries_map _ _ (entries-from_sorted nat_cmp [] tt ∙ sym (no_length (entries (empty {X = X} {R = nat_cmp})) (sym (len-entries (empty {X = X} {R = nat_cmp})) ∙ len-empty nat_cmp X)))

  pub got : (k : ℕ) (es : List (ℕ × X)) → IsRising es → get (from_sorted {R = nat_cmp} es) k ≡ value_of k (slice_get es (count_below k es))
  got k es h = get-from_sorted nat_cmp es k h ∙ found k es h

  pub missed : (k : ℕ) (es : List (ℕ × X)) → IsRising es → has_key k (slice_get es (count_below k es)) ≡ false → get (from_sorted {R = nat_cmp} es) k ≡ None
  missed k es h miss = got k es h ∙ ap (λ b. cond b (option_map (λ e. e.1) (slice_get es (count_below k es))) None) miss

  some_of : (k : ℕ) (o : Option (ℕ × X)) → has_key k o ≡ true → is_some (value_of k o) ≡ true
  some_of k None h = h
  some_of k (Some e) h = ap (λ b. is_some (cond b (Some e.1) None)) h

  pub hit_some : (k : ℕ) (es : List (ℕ × X)) → IsRising es → has_key k (slice_get es (count_below k es)) ≡ true → is_some (get (from_sorted {R = nat_cmp} es) k) ≡ true
  hit_some k es r h = ap is_some (got k es r) ∙ some_of k (slice_get es (count_below k es)) h

  pub rising_put : (k : ℕ) (v : X) (es : List (ℕ × X)) → IsRising es → IsRising (put nat_cmp k v es)
  rising_put k v es h = is_sorted-put nat_cmp nat_cmp_total k v es h

  pub map_put : (k : ℕ) (v : X) (es : List (ℕ × X)) → IsRising es → from_sorted {R = nat_cmp} (put nat_cmp k v es) ≡ insert (from_sorted es) k v
  map_put k v es h =
      same_entries_map _ _ (entries-from_sorted nat_cmp (put nat_cmp k v es) (rising_put k v es h)
      ∙ sym (entries-insert nat_cmp_total (from_sorted es) k v ∙ ap (put nat_cmp k v) (entries-from_sorted nat_cmp es h)))

  pub rising_others : (k : ℕ) (es : List (ℕ × X)) → IsRising es → IsRising (others k es)
  rising_others k es h = is_sorted-where_key nat_cmp (λ x. not (eq_by_cmp nat_cmp k x)) es h

  find_others : (k q : ℕ) (es : List (ℕ × X)) → find nat_cmp q (others k es) ≡ cond (eq_by_cmp nat_cmp q k) None (find nat_cmp q es)
  find_others k q es =
      find-where_key nat_cmp (λ x. not (eq_by_cmp nat_cmp k x)) q (λ x t. ap (λ r. not (is_eq r)) (sym (alike_right nat_cmp_total q x k t))) es
      ∙ turned (eq_by_cmp nat_cmp k q) _ _ ∙ ap (λ b. cond b None (find nat_cmp q es)) ((eq_by_cmp_equiv nat_cmp_total).symm k q)

  pub map_others : (k : ℕ) (es : List (ℕ × X)) → IsRising es → from_sorted {R = nat_cmp} (others k es) ≡ remove (from_sorted es) k
  map_others k es h = same_map nat_cmp_total nat_cmp-IsAntisymmetric _ _ (λ q.
      get-from_sorted nat_cmp (others k es) q (rising_others k es h) ∙ find_others k q es
      ∙ sym (get-remove nat_cmp_total (from_sorted es) k q ∙ ap (cond (eq_by_cmp nat_cmp q k) None) (get-from_sorted nat_cmp es q h)))

  pub remove_absent : (m : FinMap nat_cmp X) (k : ℕ) → get m k ≡ None → remove m k ≡ m
  remove_absent m k none = same_map nat_cmp_total nat_cmp-IsAntisymmetric _ _ (λ q.
      get-remove nat_cmp_total m k q
      ∙ elim (eq_by_cmp nat_cmp q k) as (λ b. eq_by_cmp nat_cmp q k ≡ b → cond b None (get m q) ≡ get m q) [
        | true ↦ λ e. sym (ap (get m) (nat_cmp-IsAntisymmetric q k (tied _ e)) ∙ none)
        | false ↦ λ e. refl
      ] refl)

  -- the entry at i is that of k
  module _ (k i : ℕ) (es : List (ℕ × X)) (rising : IsRising es) (at : i ≡ count_below k es) (h : has_key k (slice_get es (count_below k es)) ≡ true) where
    pub hit_in : i < length es
    hit_in = omega (arith, hit_within k (count_below k es) es h)

    module _ (x : ℕ × X) (is : x ≡ slice_index_or es i x) where
      there : slice_get es (count_below k es) ≡ Some x
      there = ap (slice_get es) (sym at) ∙ slice_get_read es (length es) i x refl hit_in is

      pub hit_value : Some x.1 ≡ get (from_sorted {R = nat_cmp} es) k
      hit_value = sym (got k es rising ∙ ap (λ b. cond b (option_map (λ e. e.1) (slice_get es (count_below k es))) None) h ∙ ap (option_map (λ e. e.1)) there)

      pub hit_set : (w : X) → slice_set es i (x.0, w) ≡ put nat_cmp k w es
      hit_set w = (λ j. slice_set es (at j) (key_of k x _ h there j, w)) ∙ sym (hit_put k w es h)

    pub hit_written : (w : X) → slice_set es i (k, w) ≡ put nat_cmp k w es
    hit_written w = ap (λ j. slice_set es j (k, w)) at ∙ sym (hit_put k w es h)

    pub hit_removed : list.remove es i ≡ others k es
    hit_removed = ap (list.remove es) at ∙ hit_taken k es rising h
