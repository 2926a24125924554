-- The free slots, the lowest first, without one of them.
use Rattle.std.proofs.Common.{◌≡◌, inl, inr, ℕ, zero, suc, ◌+◌, ◌<◌, ◌≤◌, Bool, true, false, cond, List, ◌∷◌, refl, sym, ap, ◌∙◌, arith}
use Rattle.std.specs.Prelude.{filter}
use Rattle.std.specs.BTreeMap.{is_at}
use Rattle.std.specs.Cmp.{nat_cmp_is}
use Rattle.std.specs.List.{range_with_len}
use Rattle.std.specs.Ordering.{is_eq, nat_cmp}
use Rattle.std.specs.declared.cmp.Ordering.TheVariants.{Less, Equal, Greater}
use Rattle.std.specs.Set.{remove_key}
use Rattle.std.proofs.lemmas.Bool.{cases_eq, cases_lt}
use Rattle.store_disk.proofs.Free.{filter_same}

at_itself : (s : ℕ) → is_at (nat_cmp s) s ≡ true
at_itself s = ap is_eq (sym (nat_cmp_is s s Equal refl))

at_another : (s a : ℕ) → (a ≡ s → ⊥) → is_at (nat_cmp s) a ≡ false
at_another s a other = elim (cases_lt s a) [
  | inl less ↦ ap is_eq (sym (nat_cmp_is s a Less less))
  | inr no_less ↦ elim (cases_lt a s) [
    | inl more ↦ ap is_eq (sym (nat_cmp_is s a Greater more))
    | inr no_more ↦ absurd (other (omega (arith, no_less, no_more)))
  ]
]

taken : (test : ℕ → Bool) (a : ℕ) (xs : List ℕ) → test a ≡ true → remove_key test (a ∷ xs) ≡ xs
taken test a xs e = ap (λ b. cond b xs (a ∷ remove_key test xs)) e

left : (test : ℕ → Bool) (a : ℕ) (xs : List ℕ) → test a ≡ false → remove_key test (a ∷ xs) ≡ a ∷ remove_key test xs
left test a xs e = ap (λ b. cond b xs (a ∷ remove_key test xs)) e

pub one_gone : (u v : ℕ → Bool) (a n s : ℕ) → a ≤ s → s < a + n → u s ≡ true → v s ≡ false → ((t : ℕ) → a ≤ t → t < a + n → (t ≡ s → ⊥) → v t ≡ u t)
    → remove_key (is_at (nat_cmp s)) (filter u (range_with_len a n)) ≡ filter v (range_with_len a n)
one_gone u v a zero s le lt was gone same = absurd (omega (arith, le, lt))
one_gone u v a (suc n) s le lt was gone same = elim (cases_eq a s) [
  | inl here ↦
      ap (λ b. remove_key (is_at (nat_cmp s)) (cond b (a ∷ xs) xs)) (ap u here ∙ was)
      ∙ taken (is_at (nat_cmp s)) a xs (ap (is_at (nat_cmp s)) here ∙ at_itself s)
      ∙ sym (filter_same u v (a + 1) n (λ t from to. same t (omega (arith, from)) (omega (arith, to)) (λ e. absurd (omega (arith, e, here, from)))))
      ∙ sym (ap (λ b. cond b (a ∷ ys) ys) (ap v here ∙ gone))
  | inr other ↦
      let more : a < s = before other in
      let next : remove_key (is_at (nat_cmp s)) xs ≡ ys = one_gone u v (a + 1) n s (omega (arith, more)) (omega (arith, lt)) was gone (λ t from to another. same t (omega (arith, from)) (omega (arith, to)) another) in
      by other (u a) ∙ ap (λ (l : List ℕ). cond (u a) (a ∷ l) l) next ∙ ap (λ b. cond b (a ∷ ys) ys) (sym (same a (omega arith) (omega arith) other))
]
  where
    xs : List ℕ
    xs = filter u (range_with_len (a + 1) n)

    ys : List ℕ
    ys = filter v (range_with_len (a + 1) n)

    before : (a ≡ s → ⊥) → a < s
    before other = elim (cases_lt a s) [
      | inl less ↦ less
      | inr no_less ↦ absurd (other (omega (arith, le, no_less)))
    ]

    by : (a ≡ s → ⊥) → (b : Bool) → remove_key (is_at (nat_cmp s)) (cond b (a ∷ xs) xs) ≡ cond b (a ∷ remove_key (is_at (nat_cmp s)) xs) (remove_key (is_at (nat_cmp s)) xs)
    by other true = left (is_at (nat_cmp s)) a xs (at_another s a other)
    by other false = refl
