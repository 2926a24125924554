-- The free slots, the lowest first, where one slot more is used or one fewer.
use Rattle.std.proofs.Common.{◌≡◌, inl, inr, ℕ, zero, suc, ◌+◌, ◌<◌, ◌≤◌, Bool, true, false, cond, List, ◌∷◌, refl, sym, ap, ◌∙◌, arith}
use Rattle.std.specs.Prelude.{filter}
use Rattle.std.specs.BTreeSet.{insert_key}
use Rattle.std.specs.Cmp.{nat_cmp_is}
use Rattle.std.specs.List.{range_with_len}
use Rattle.std.specs.Ordering.{match_ordering, nat_cmp}
use Rattle.std.specs.declared.cmp.Ordering.{Ordering}
use Rattle.std.specs.declared.cmp.Ordering.TheVariants.{Less, Greater}
use Rattle.std.proofs.lemmas.Bool.{cases_eq, cases_lt}

filter_both : (x : ℕ) (b c : Bool) (xs ys : List ℕ) → b ≡ c → xs ≡ ys → cond b (x ∷ xs) xs ≡ cond c (x ∷ ys) ys
filter_both x b c xs ys e f = ap (λ t. cond t (x ∷ xs) xs) e ∙ ap (λ (l : List ℕ). cond c (x ∷ l) l) f

-- the same test, the same numbers
pub filter_same : (u v : ℕ → Bool) (a n : ℕ) → ((t : ℕ) → a ≤ t → t < a + n → v t ≡ u t) → filter v (range_with_len a n) ≡ filter u (range_with_len a n)
filter_same u v a zero same = refl
filter_same u v a (suc n) same =
    filter_both a (v a) (u a) (filter v (range_with_len (a + 1) n)) (filter u (range_with_len (a + 1) n)) (same a (omega arith) (omega arith))
    (filter_same u v (a + 1) n (λ t le lt. same t (omega (arith, le)) (omega (arith, lt))))

pub filter_all : (u : ℕ → Bool) (a n : ℕ) → ((t : ℕ) → a ≤ t → t < a + n → u t ≡ true) → filter u (range_with_len a n) ≡ range_with_len a n
filter_all u a zero all = refl
filter_all u a (suc n) all =
    filter_both a (u a) true (filter u (range_with_len (a + 1) n)) (range_with_len (a + 1) n) (all a (omega arith) (omega arith))
    (filter_all u (a + 1) n (λ t le lt. all t (omega (arith, le)) (omega (arith, lt))))

-- the lowest of them

pub record Lowest (u : ℕ → Bool) (a n s : ℕ) : Type 0 where
  pub from : a ≤ s
  pub below : s < a + n
  pub is_one : u s ≡ true

pub lowest : (u : ℕ → Bool) (a n s : ℕ) (rest : List ℕ) → filter u (range_with_len a n) ≡ s ∷ rest → Lowest u a n s
lowest u a zero s rest e = absurd cc
lowest u a (suc n) s rest e = by (λ f. lowest u (a + 1) n s rest f) (u a) refl e
  where
    by : (filter u (range_with_len (a + 1) n) ≡ s ∷ rest → Lowest u (a + 1) n s) → (b : Bool) → u a ≡ b → cond b (a ∷ filter u (range_with_len (a + 1) n)) (filter u (range_with_len (a + 1) n)) ≡ s ∷ rest → Lowest u a (suc n) s
    by next true h e = let same : a ≡ s = cc in record { from = omega (arith, same); below = omega (arith, same); is_one = ap u (sym same) ∙ h }
    by next false h e = let later = next e in record { from = omega (arith, later.from); below = omega (arith, later.below); is_one = later.is_one }

-- without the lowest
pub lowest_taken : (u v : ℕ → Bool) (a n s : ℕ) (rest : List ℕ) → filter u (range_with_len a n) ≡ s ∷ rest → v s ≡ false → ((t : ℕ) → a ≤ t → t < a + n → (t ≡ s → ⊥) → v t ≡ u t) → filter v (range_with_len a n) ≡ rest
lowest_taken u v a zero s rest e gone same = absurd cc
lowest_taken u v a (suc n) s rest e gone same =
    by (λ f. lowest_taken u v (a + 1) n s rest f gone (λ t le lt other. same t (omega (arith, le)) (omega (arith, lt)) other)) (u a) refl e
  where
    xs : List ℕ
    xs = filter u (range_with_len (a + 1) n)

    ys : List ℕ
    ys = filter v (range_with_len (a + 1) n)

    by : (xs ≡ s ∷ rest → ys ≡ rest) → (b : Bool) → u a ≡ b → cond b (a ∷ xs) xs ≡ s ∷ rest → cond (v a) (a ∷ ys) ys ≡ rest
    by next true h e =
        let first : a ≡ s = cc in
        let others : xs ≡ rest = cc in
        filter_both a (v a) false ys xs (ap v first ∙ gone) (filter_same u v (a + 1) n (λ t le lt. same t (omega (arith, le)) (omega (arith, lt)) (λ is. absurd (omega (arith, is, first, le))))) ∙ others
    by next false h e =
        let later = lowest u (a + 1) n s rest e in
        filter_both a (v a) false ys rest (same a (omega arith) (omega arith) (λ is. absurd (omega (arith, is, later.from))) ∙ h) (next e)

-- with one more

match_less : (k x : ℕ) (a b c : List ℕ) → k < x → match_ordering (nat_cmp k x) a b c ≡ a
match_less k x a b c lt = ap (λ (o : Ordering). match_ordering o a b c) (sym (nat_cmp_is k x Less lt))

match_greater : (k x : ℕ) (a b c : List ℕ) → x < k → match_ordering (nat_cmp k x) a b c ≡ c
match_greater k x a b c lt = ap (λ (o : Ordering). match_ordering o a b c) (sym (nat_cmp_is k x Greater lt))

put_first : (k : ℕ) (u : ℕ → Bool) (a n : ℕ) → k < a → insert_key nat_cmp (filter u (range_with_len a n)) k ≡ k ∷ filter u (range_with_len a n)
put_first k u a zero lt = refl
put_first k u a (suc n) lt = by (put_first k u (a + 1) n (omega (arith, lt))) (u a)
  where
    xs : List ℕ
    xs = filter u (range_with_len (a + 1) n)

    by : insert_key nat_cmp xs k ≡ k ∷ xs → (b : Bool) → insert_key nat_cmp (cond b (a ∷ xs) xs) k ≡ k ∷ cond b (a ∷ xs) xs
    by next true = match_less k a (k ∷ a ∷ xs) (a ∷ xs) (a ∷ insert_key nat_cmp xs k) lt
    by next false = next

pub one_put : (u v : ℕ → Bool) (a n s : ℕ) → a ≤ s → s < a + n → u s ≡ false → v s ≡ true → ((t : ℕ) → a ≤ t → t < a + n → (t ≡ s → ⊥) → v t ≡ u t)
    → filter v (range_with_len a n) ≡ insert_key nat_cmp (filter u (range_with_len a n)) s
one_put u v a zero s le lt was is same = absurd (omega (arith, le, lt))
one_put u v a (suc n) s le lt was is same = elim (cases_eq a s) [
  | inl here ↦
      filter_both a (v a) true ys xs (ap v here ∙ is) (filter_same u v (a + 1) n (λ t from to. same t (omega (arith, from)) (omega (arith, to)) (λ e. absurd (omega (arith, e, here, from)))))
      ∙ ap (λ (k : ℕ). k ∷ xs) here
      ∙ sym (put_first s u (a + 1) n (omega (arith, here)))
      ∙ sym (ap (λ t. insert_key nat_cmp (cond t (a ∷ xs) xs) s) (ap u here ∙ was))
  | inr other ↦
      let more : a < s = before other in
      filter_both a (v a) (u a) ys (insert_key nat_cmp xs s) (same a (omega arith) (omega arith) other)
      (one_put u v (a + 1) n s (omega (arith, more)) (omega (arith, lt)) was is (λ t from to else. same t (omega (arith, from)) (omega (arith, to)) else))
      ∙ by more (u a)
]
  where
    xs : List ℕ
    xs = filter u (range_with_len (a + 1) n)

    ys : List ℕ
    ys = filter v (range_with_len (a + 1) n)

    before : (a ≡ s → ⊥) → a < s
    before other = elim (cases_lt a s) [
      | inl less ↦ less
      | inr no_less ↦ absurd (other (omega (arith, le, no_less)))
    ]

    by : a < s → (b : Bool) → cond b (a ∷ insert_key nat_cmp xs s) (insert_key nat_cmp xs s) ≡ insert_key nat_cmp (cond b (a ∷ xs) xs) s
    by more true = sym (match_greater s a (s ∷ a ∷ xs) (a ∷ xs) (a ∷ insert_key nat_cmp xs s) more)
    by more false = refl
