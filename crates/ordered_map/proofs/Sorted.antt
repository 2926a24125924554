-- Entries whose keys rise are the entries of their finite map.
use Rattle.std.proofs.Common.{◌≡◌, ℕ, true, ◌&&◌, T, List, [], ◌∷◌, length, refl, sym, ap, subst, ◌∙◌}
use Rattle.std.specs.declared.cmp.Ordering.TheVariants.{Less}
use Rattle.std.specs.Ordering.{nat_cmp, is_lt}
use Rattle.std.specs.Cmp.{nat_cmp_total}
use Rattle.std.specs.List.{AllByRecursion}
use Rattle.std.specs.List.Sorted.{IsStrictlySortedBy}
use Rattle.std.specs.Map.{keys_of}
use Rattle.std.specs.FinMap.{entries, len, is_sorted, from_entries, from_sorted, get-from_entries, get-from_sorted, entries-from_sorted, len-entries, same_map, nat_cmp-IsAntisymmetric}
use Rattle.std.specs.FinMap.Entries.{below_all}

module _ {X : Type 0} where
  below : (k : ℕ) (es : List (ℕ × X)) → AllByRecursion (λ y. nat_cmp k y ≡ Less) (keys_of es) → below_all nat_cmp k es ≡ true
  below k [] h = refl
  below k (e ∷ es) h = ap (λ r. is_lt r && below_all nat_cmp k es) h.0 ∙ below k es h.1

  sorted : (es : List (ℕ × X)) → IsStrictlySortedBy nat_cmp (keys_of es) → is_sorted nat_cmp es ≡ true
  unfolding IsStrictlySortedBy
  sorted [] h = refl
  sorted (e ∷ es) h = ap (λ b. b && is_sorted nat_cmp es) (below e.0 es h.0) ∙ sorted es h.1

  pub rising_of : (es : List (ℕ × X)) → IsStrictlySortedBy nat_cmp (keys_of es) → T (is_sorted nat_cmp es)
  rising_of es h = subst T (sym (sorted es h)) tt

  pub entries_of : (es : List (ℕ × X)) → IsStrictlySortedBy nat_cmp (keys_of es) → entries (from_entries {R = nat_cmp} es) ≡ es
  entries_of es h =
      let rising : T (is_sorted nat_cmp es) = subst T (sym (sorted es h)) tt in
      let same : from_entries {R = nat_cmp} es ≡ from_sorted es = same_map nat_cmp_total nat_cmp-IsAntisymmetric _ _ (λ q. get-from_entries nat_cmp_total es q ∙ sym (get-from_sorted nat_cmp es q rising)) in
      ap entries same ∙ entries-from_sorted nat_cmp es rising

  pub len_of : (es : List (ℕ × X)) → IsStrictlySortedBy nat_cmp (keys_of es) → len (from_entries {R = nat_cmp} es) ≡ length es
  len_of es h = len-entries (from_entries es) ∙ ap length (entries_of es h)
