-- What stands in a map after one change.
use Rattle.std.proofs.Common.{◌≡◌, inl, inr, ℕ, Bool, true, false, cond, refl, sym, ap, ◌∙◌, Some, None, Ordering}
use Rattle.std.proofs.lemmas.Bool.{cases_eq}
use Rattle.std.specs.declared.cmp.Ordering.TheVariants.{Less, Equal, Greater}
use Rattle.std.specs.FinMap as map
use Rattle.std.specs.Ordering.{nat_cmp, eq_by_cmp, is_eq}
use Rattle.std.specs.Cmp.{nat_cmp_total, eq_by_cmp_equiv}
use Rattle.std.specs.FinMap.{nat_cmp-IsAntisymmetric}

is_equal : (r : Ordering) → is_eq r ≡ true → r ≡ Equal
is_equal Less e = cc
is_equal Equal e = refl
is_equal Greater e = cc

itself : (k : ℕ) → eq_by_cmp nat_cmp k k ≡ true
itself k = (eq_by_cmp_equiv nat_cmp_total).refl k

another : (b : Bool) (q k : ℕ) → eq_by_cmp nat_cmp q k ≡ b → (q ≡ k → ⊥) → b ≡ false
another true q k e not_same = absurd (not_same (nat_cmp-IsAntisymmetric q k (is_equal (nat_cmp q k) e)))
another false q k e not_same = refl

apart : (q k : ℕ) → (q ≡ k → ⊥) → eq_by_cmp nat_cmp q k ≡ false
apart q k not_same = another (eq_by_cmp nat_cmp q k) q k refl not_same

module _ {X : Type 0} (m : map.FinMap nat_cmp X) (k : ℕ) where
  pub found_here : (v : X) → map.get (map.insert m k v) k ≡ Some v
  found_here v = map.get-insert nat_cmp_total m k v k ∙ ap (λ b. cond b (Some v) (map.get m k)) (itself k)

  pub found_elsewhere : (v : X) (q : ℕ) → (q ≡ k → ⊥) → map.get (map.insert m k v) q ≡ map.get m q
  found_elsewhere v q not_same = map.get-insert nat_cmp_total m k v q ∙ ap (λ b. cond b (Some v) (map.get m q)) (apart q k not_same)

  pub gone_here : map.get (map.remove m k) k ≡ None
  gone_here = map.get-remove nat_cmp_total m k k ∙ ap (λ b. cond b None (map.get m k)) (itself k)

  pub kept_elsewhere : (q : ℕ) → (q ≡ k → ⊥) → map.get (map.remove m k) q ≡ map.get m q
  kept_elsewhere q not_same = map.get-remove nat_cmp_total m k q ∙ ap (λ b. cond b None (map.get m q)) (apart q k not_same)

  -- what stands there already
  pub insert_same : (v : X) → map.get m k ≡ Some v → map.insert m k v ≡ m
  insert_same v there = map.same_map nat_cmp_total nat_cmp-IsAntisymmetric (map.insert m k v) m (λ q. elim (cases_eq q k) [
    | inl same ↦ ap (λ (j : ℕ). map.get (map.insert m k v) j) same ∙ found_here v ∙ sym there ∙ sym (ap (λ (j : ℕ). map.get m j) same)
    | inr other ↦ found_elsewhere v q other
  ])
