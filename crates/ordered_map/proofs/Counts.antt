-- How many entries a map has after a change.
use Rattle.std.proofs.Common.{◌≡◌, ◌≢◌, ℕ, ◌+◌, ◌-◌, Bool, true, false, not, cond, Option, Some, None, is_some, MatchOption, MutBor, refl, sym, ap, ◌∙◌}
use Rattle.std.specs.Option.{option_copied_mut}
use Rattle.std.specs.Ordering.{nat_cmp}
use Rattle.std.specs.Cmp.{nat_cmp_total}
use Rattle.std.specs.FinMap.{FinMap, get, contains_key, insert, remove, len, len-insert, len-remove, empty_of_len, get-empty}

-- what follows where a value was lent, and where there was none
pub lent : {A P Q C : Type 0} (r : Option (MutBor A)) (found : Option A) → option_copied_mut r ≡ found → MatchOption r P (λ _. Q) → (P → C) → (is_some found ≡ true → Q → C) → C
lent None found e h f g = f h
lent (Some x) found e h f g = g (sym (ap is_some e)) h

is_absent : (b : Bool) → true ≡ not b → b ≡ false
is_absent true e = cc
is_absent false e = refl

is_present : (b : Bool) → false ≡ not b → b ≡ true
is_present true e = refl
is_present false e = cc

module _ {X : Type 0} (m n : FinMap nat_cmp X) (k : ℕ) where
  pub count_grown : (v : X) (b : Bool) (c : ℕ) → n ≡ insert m k v → b ≡ not (contains_key m k) → b ≡ true → c ≡ len m → c + 1 ≡ len n
  count_grown v b c is new fresh whole =
      ap (λ x. x + 1) whole ∙ sym (ap len is ∙ len-insert nat_cmp_total m k v ∙ ap (λ t. cond t (len m) (len m + 1)) (is_absent _ (sym fresh ∙ new)))

  pub count_kept : (v : X) (c : ℕ) → n ≡ insert m k v → contains_key m k ≡ true → c ≡ len m → c ≡ len n
  count_kept v c is there whole = whole ∙ sym (ap len is ∙ len-insert nat_cmp_total m k v ∙ ap (λ t. cond t (len m) (len m + 1)) there)

  pub count_kept_by : (v : X) (b : Bool) (c : ℕ) → n ≡ insert m k v → b ≡ not (contains_key m k) → b ≡ false → c ≡ len m → c ≡ len n
  count_kept_by v b c is new old whole = count_kept v c is (is_present _ (sym old ∙ new)) whole

  pub not_none : (v : X) → Some v ≡ get m k → len m ≢ 0
  not_none v h e = absurd_of (h ∙ ap (λ t. get t k) (empty_of_len m e) ∙ get-empty nat_cmp k)
    where
      absurd_of : Some v ≢ None
      absurd_of e = cc

  pub count_fallen : (v : X) (c : ℕ) → n ≡ remove m k → Some v ≡ get m k → c ≡ len m → c - 1 ≡ len n
  count_fallen v c is there whole =
      ap (λ x. x - 1) whole ∙ sym (ap len is ∙ len-remove nat_cmp_total m k ∙ ap (λ t. cond t (len m - 1) (len m)) (sym (ap is_some there)))
