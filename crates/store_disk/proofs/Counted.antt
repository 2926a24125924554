-- How many slots are free.
use Rattle.std.proofs.Common.{◌≡◌, inl, inr, ℕ, zero, suc, ◌+◌, ◌-◌, ◌<◌, ◌≤◌, Bool, true, false, not, cond, List, [], ◌∷◌, length, refl, sym, ap, ◌∙◌, arith, Option, None, Some}
use Rattle.std.specs.Prelude.{◌↔◌, filter, is_some}
use Rattle.std.specs.FinMap as map
use Rattle.std.specs.Cmp.{nat_cmp_total}
use Rattle.std.specs.FinMap.{nat_cmp-IsAntisymmetric}
use Rattle.std.specs.List.{range_with_len}
use Rattle.std.specs.Ordering.{nat_cmp}
use Rattle.std.proofs.lemmas.Bool.{cases_eq}
use Rattle.std.proofs.lemmas.Bool.Decides.{nat_tests}
use Rattle.replica_store.specs.Replicas.{ServerDisk, is_disk_full}
use Rattle.store_disk.specs.Index.{IndexState}
use Rattle.store_disk.specs.declared.held.HeldReplica.{HeldReplica}
use Rattle.store_disk.specs.Stored.{IsDiskOf, is_used}
use Rattle.store_disk.proofs.Listed.{count_known}
use Rattle.store_disk.proofs.Lookups.{gone_here, kept_elsewhere}
use Rattle.store_disk.proofs.Replicas.{its_replica, used_by}

abbrev Held : Type 0
Held = map.FinMap nat_cmp HeldReplica

nothing_held : (m : Held) → ((q : ℕ) → map.get m q ≡ None) → map.len m ≡ 0
nothing_held m none =
    ap map.len (map.same_map nat_cmp_total nat_cmp-IsAntisymmetric m map.empty (λ q. none q ∙ sym (map.get-empty nat_cmp q))) ∙ map.len-empty nat_cmp HeldReplica

-- one entry less
one_less : (m : Held) (h : ℕ) (x : HeldReplica) → map.get m h ≡ Some x → map.len (map.remove m h) + 1 ≡ map.len m
one_less m h x there =
    let has : map.contains_key m h ≡ true = ap is_some there in
    let less : map.len (map.remove m h) ≡ map.len m - 1 = map.len-remove nat_cmp_total m h ∙ ap (λ b. cond b (map.len m - 1) (map.len m)) has in
    by (map.len m) refl less
  where
    by : (n : ℕ) → map.len m ≡ n → map.len (map.remove m h) ≡ map.len m - 1 → map.len (map.remove m h) + 1 ≡ map.len m
    by zero e less = let f : None ≡ Some x = sym (ap (λ (k : Held). map.get k h) (map.empty_of_len m e) ∙ map.get-empty nat_cmp h) ∙ there in absurd cc
    by (suc n) e less = omega (arith, less, e)

-- The replicas that lie in n slots from a on, each in a slot of its own: all that are used.
record AreIn (used : ℕ → Bool) (a n : ℕ) (m : Held) : Type 0 where
  from : (q : ℕ) (x : HeldReplica) → map.get m q ≡ Some x → a ≤ x.slot
  below : (q : ℕ) (x : HeldReplica) → map.get m q ≡ Some x → x.slot < a + n
  is_one : (q : ℕ) (x : HeldReplica) → map.get m q ≡ Some x → used x.slot ≡ true
  each : (t : ℕ) → a ≤ t → t < a + n → used t ≡ true → (q : ℕ) × (x : HeldReplica) × (map.get m q ≡ Some x) × (x.slot ≡ t)
  apart : (p q : ℕ) (x y : HeldReplica) → map.get m p ≡ Some x → map.get m q ≡ Some y → x.slot ≡ y.slot → p ≡ q

-- the first slot is used
without_first : (used : ℕ → Bool) (a n : ℕ) (m : Held) → AreIn used a (suc n) m → (h : ℕ) (x : HeldReplica) → map.get m h ≡ Some x → x.slot ≡ a → AreIn used (a + 1) n (map.remove m h)
without_first used a n m are h x there first = record {
  from = λ q y at. let other = not_first q y (had q y at) (apart_from q y at) in let le = are.from q y (had q y at) in (elim (cases_eq a y.slot) [
    | inl same ↦ absurd (other (sym same))
    | inr differ ↦ omega (arith, le, differ)
  ]);
  below = λ q y at. let lt = are.below q y (had q y at) in omega (arith, lt);
  is_one = λ q y at. are.is_one q y (had q y at);
  each = λ t le lt is.
      let its = are.each t (omega (arith, le)) (omega (arith, lt)) is in
      elim (cases_eq its.0 h) [
        | inl same ↦
            let both : Some x ≡ Some its.1 = sym there ∙ ap (λ (k : ℕ). map.get m k) (sym same) ∙ its.2 in
            let is_x : x ≡ its.1 = cc in
            absurd (omega (arith, le, sym first ∙ ap (λ (y : HeldReplica). y.slot) is_x ∙ its.3))
        | inr other ↦ (its.0, its.1, kept_elsewhere m h its.0 other ∙ its.2, its.3)
      ];
  apart = λ p q y z at_p at_q e. are.apart p q y z (had p y at_p) (had q z at_q) e;
}
  where
    apart_from : (q : ℕ) (y : HeldReplica) → map.get (map.remove m h) q ≡ Some y → (q ≡ h → ⊥)
    apart_from q y at same = let f : None ≡ Some y = sym (gone_here m h) ∙ ap (λ (k : ℕ). map.get (map.remove m h) k) (sym same) ∙ at in absurd cc

    had : (q : ℕ) (y : HeldReplica) → map.get (map.remove m h) q ≡ Some y → map.get m q ≡ Some y
    had q y at = sym (kept_elsewhere m h q (apart_from q y at)) ∙ at

    not_first : (q : ℕ) (y : HeldReplica) → map.get m q ≡ Some y → (q ≡ h → ⊥) → (y.slot ≡ a → ⊥)
    not_first q y at other same = other (are.apart q h y x at there (same ∙ sym first))

-- the first slot isn't used
past_first : (used : ℕ → Bool) (a n : ℕ) (m : Held) → AreIn used a (suc n) m → used a ≡ false → AreIn used (a + 1) n m
past_first used a n m are free = record {
  from = λ q x at. let le = are.from q x at in (elim (cases_eq a x.slot) [
    | inl same ↦ let f : false ≡ true = sym free ∙ ap used same ∙ are.is_one q x at in absurd cc
    | inr differ ↦ omega (arith, le, differ)
  ]);
  below = λ q x at. let lt = are.below q x at in omega (arith, lt);
  is_one = are.is_one;
  each = λ t le lt is. are.each t (omega (arith, le)) (omega (arith, lt)) is;
  apart = are.apart;
}

none_left : (used : ℕ → Bool) (a : ℕ) (m : Held) → AreIn used a zero m → (q : ℕ) (o : Option HeldReplica) → map.get m q ≡ o → o ≡ None
none_left used a m are q None e = refl
none_left used a m are q (Some x) e = let from = are.from q x e in let below = are.below q x e in absurd (omega (arith, from, below))

counted : (used : ℕ → Bool) (a n : ℕ) (m : Held) → AreIn used a n m → map.len m + length (filter (λ t. not (used t)) (range_with_len a n)) ≡ n
counted used a zero m are = let none = nothing_held m (λ q. none_left used a m are q (map.get m q) refl) in omega (arith, none)
counted used a (suc n) m are = by (λ k less. counted used (a + 1) n k less) (used a) refl
  where
    rest : List ℕ
    rest = filter (λ t. not (used t)) (range_with_len (a + 1) n)

    by : ((k : Held) → AreIn used (a + 1) n k → map.len k + length rest ≡ n) → (b : Bool) → used a ≡ b → map.len m + length (cond (not (used a)) (a ∷ rest) rest) ≡ suc n
    by so_far true e =
        let its = are.each a (omega arith) (omega arith) e in
        let fewer = so_far (map.remove m its.0) (without_first used a n m are its.0 its.1 its.2 its.3) in
        let less = one_less m its.0 its.1 its.2 in
        let same : length (cond (not (used a)) (a ∷ rest) rest) ≡ length rest = ap (λ b. length (cond (not b) (a ∷ rest) rest)) e in
        omega (arith, fewer, less, same)
    by so_far false e =
        let fewer = so_far m (past_first used a n m are e) in
        let same : length (cond (not (used a)) (a ∷ rest) rest) ≡ suc (length rest) = ap (λ b. length (cond (not b) (a ∷ rest) rest)) e in
        omega (arith, fewer, same)

module _ (chunk block slots : ℕ) (index : IndexState) (disk : List ℕ) (d : ServerDisk) (is : IsDiskOf chunk block slots index disk d) where
  -- each slot is free, or one replica's
  pub slots_counted : map.len index.held + length index.free ≡ slots
  slots_counted =
      ap (λ (l : List ℕ). map.len index.held + length l) is.free
      ∙ counted (is_used chunk block disk) 0 slots index.held (record {
        from = λ q x at. omega arith;
        below = λ q x at. (let lt = (its_replica chunk block slots index disk d is q x at).2.there in omega (arith, lt));
        is_one = λ q x at. (let its = its_replica chunk block slots index disk d is q x at in used_by chunk block disk x.slot q its.0 its.2.holds);
        each = λ t le lt used. is.each t (omega (arith, lt)) used;
        apart = is.apart;
      })

  -- no slot is free just where every slot is used
  pub full_known : index.free ≡ [] ↔ is_disk_full slots d ≡ true
  full_known =
      let all : map.len d.replicas + length index.free ≡ slots = ap (λ (n : ℕ). n + length index.free) (sym (count_known chunk block slots index disk d is)) ∙ slots_counted in (
        λ none. (let nothing : length index.free ≡ 0 = ap length none in grind (arith, nat_tests, all, nothing)),
        λ full. (let most : slots ≤ map.len d.replicas = grind (arith, nat_tests, full) in empty_list index.free (omega (arith, all, most))),
      )
    where
      empty_list : (l : List ℕ) → length l ≡ 0 → l ≡ []
      empty_list [] e = refl
      empty_list (x ∷ l) e = absurd (omega (arith, e))
