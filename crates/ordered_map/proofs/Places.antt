-- Where an entry stands among entries in rising number.
use Rattle.std.proofs.Common.{◌≡◌, ℕ, zero, suc, ◌<◌, ◌≤◌, ◌==◌, nat_lt, Bool, true, false, true≢false, not, ◌&&◌, cond, T, List, [], ◌∷◌, length, Option, Some, None, refl, sym, ap, subst, ◌∙◌, arith}
use Rattle.std.specs.Prelude.{slice_get, slice_set, slice_index_or}
use Rattle.std.specs.List.Sorted.{IsPartitionedBy, IsPartitionPoint}
use Rattle.std.specs.List as list
use Rattle.std.specs.Option.{option_map}
use Rattle.std.specs.declared.cmp.Ordering.{Ordering}
use Rattle.std.specs.declared.cmp.Ordering.TheVariants.{Less, Equal, Greater}
use Rattle.std.specs.Ordering.{nat_cmp, is_lt, is_eq, eq_by_cmp}
use Rattle.std.specs.Cmp.{nat_cmp_total}
use Rattle.std.specs.FinMap.{find, put}
use Rattle.std.specs.FinMap.Entries.{below_all, where_key, by_order}
use Rattle.std.proofs.Math.Logic.{◌⊎◌, inl, inr, ⊎_elim}
use Rattle.std.proofs.lemmas.Bool.{cases_lt, cases_eq, ltb-true, lt-ltb}
use Rattle.std.proofs.lemmas.Bool.Decides.{nat_tests}
use Rattle.ordered_map.specs.Rising.{IsRising, count_below, has_key}

pub first : (a b : Bool) → T (a && b) → T a
first true b p = tt
first false b p = p

pub second : (a b : Bool) → T (a && b) → T b
second true b p = p
second false b p = absurd p

-- how two numbers compare, by each test
record IsBefore (x k : ℕ) : Type 0 where
  lt : nat_lt x k ≡ true
  eq : (x == k) ≡ false
  cmp : nat_cmp k x ≡ Greater

record IsSame (x k : ℕ) : Type 0 where
  lt : nat_lt x k ≡ false
  eq : (x == k) ≡ true
  cmp : nat_cmp k x ≡ Equal
  is : x ≡ k

record IsAfter (x k : ℕ) : Type 0 where
  lt : nat_lt x k ≡ false
  eq : (x == k) ≡ false
  cmp : nat_cmp k x ≡ Less

compared : (x k : ℕ) → IsBefore x k ⊎ (IsSame x k ⊎ IsAfter x k)
compared x k =
    ⊎_elim
    (λ l. inl (record { lt = grind (arith, nat_tests); eq = grind (arith, nat_tests); cmp = grind (arith, nat_tests) }))
    (λ ge. inr (⊎_elim
    (λ e. inl (record { lt = grind (arith, nat_tests); eq = grind (arith, nat_tests); cmp = grind (arith, nat_tests); is = e }))
    (λ ne. inr (record { lt = grind (arith, nat_tests); eq = grind (arith, nat_tests); cmp = grind (arith, nat_tests) }))
    (cases_eq x k)))
    (cases_lt x k)

pub both : (a b : Bool) → T a → T b → T (a && b)
both true b p q = q
both false b p q = absurd p

pub less : (r : Ordering) → T (is_lt r) → r ≡ Less
less Less h = refl
less Equal h = absurd h
less Greater h = absurd h

module _ {X : Type 0} where
  -- the value of an entry, if it has that number
  abbrev pub value_of : ℕ → Option (ℕ × X) → Option X
  value_of k o = cond (has_key k o) (option_map (λ e. e.1) o) None

  -- an entry below all of a list is not found in it
  pub not_below : (k : ℕ) (es : List (ℕ × X)) → T (below_all nat_cmp k es) → find nat_cmp k es ≡ None
  not_below k [] h = refl
  not_below k (e ∷ es) h = ap (λ r. cond (is_eq r) (Some e.1) (find nat_cmp k es)) (less (nat_cmp k e.0) (first _ _ h)) ∙ not_below k es (second _ _ h)

  pub lower : (k j : ℕ) (es : List (ℕ × X)) → nat_cmp k j ≡ Less → T (below_all nat_cmp j es) → T (below_all nat_cmp k es)
  lower k j [] l h = tt
  lower k j (e ∷ es) l h = both _ _ (subst (λ r. T (is_lt r)) (sym (nat_cmp_total.trans k j e.0 l (less _ (first _ _ h)))) tt) (lower k j es l (second _ _ h))

  pub found : (k : ℕ) (es : List (ℕ × X)) → IsRising es → find nat_cmp k es ≡ value_of k (slice_get es (count_below k es))
  found k [] h = refl
  found k (e ∷ es) h =
      let at = λ (t : Bool). value_of k (slice_get (e ∷ es) (cond t (suc (count_below k es)) 0)) in
      let start = λ (r : Ordering). cond (is_eq r) (Some e.1) (find nat_cmp k es) in
      let here = λ (t : Bool). cond t (Some e.1) None in
      ⊎_elim
      (λ b. ap start b.cmp ∙ found k es (second _ _ h) ∙ sym (ap at b.lt))
      (λ r. ⊎_elim
      (λ s. ap start s.cmp ∙ sym (ap at s.lt ∙ ap here s.eq))
      (λ a. ap start a.cmp ∙ not_below k es (lower k e.0 es a.cmp (first _ _ h)) ∙ sym (ap at a.lt ∙ ap here a.eq))
      r)
      (compared e.0 k)

  pub count_within : (k : ℕ) (es : List (ℕ × X)) → count_below k es ≤ length es
  count_within k [] = omega arith
  count_within k (e ∷ es) = elim (nat_lt e.0 k) as (λ t. cond t (suc (count_below k es)) 0 ≤ suc (length es)) [ true ↦ omega (arith, count_within k es) | false ↦ omega arith ]

  pub hit_within : (k i : ℕ) (es : List (ℕ × X)) → has_key k (slice_get es i) ≡ true → i < length es
  hit_within k i [] h = absurd (true≢false (sym h))
  hit_within k zero (e ∷ es) h = omega arith
  hit_within k (suc i) (e ∷ es) h = omega (arith, hit_within k i es h)

  -- an entry in the place of that with its number
  pub hit_put : (k : ℕ) (v : X) (es : List (ℕ × X)) → has_key k (slice_get es (count_below k es)) ≡ true → put nat_cmp k v es ≡ slice_set es (count_below k es) (k, v)
  hit_put k v [] h = absurd (true≢false (sym h))
  hit_put k v (e ∷ es) h =
      let there = λ (t : Bool). has_key k (slice_get (e ∷ es) (cond t (suc (count_below k es)) 0)) in
      let at = λ (t : Bool). slice_set (e ∷ es) (cond t (suc (count_below k es)) 0) (k, v) in
      let start = λ (r : Ordering). by_order r ((k, v) ∷ e ∷ es) ((e.0, v) ∷ es) (e ∷ put nat_cmp k v es) in
      ⊎_elim
      (λ b. ap start b.cmp ∙ ap (λ (t : List (ℕ × X)). e ∷ t) (hit_put k v es (sym (ap there b.lt) ∙ h)) ∙ sym (ap at b.lt))
      (λ r. ⊎_elim
      (λ s. ap start s.cmp ∙ ap (λ (j : ℕ). (j, v) ∷ es) s.is ∙ sym (ap at s.lt))
      (λ a. absurd (true≢false (sym h ∙ ap there a.lt ∙ a.eq)))
      r)
      (compared e.0 k)

  -- an entry with a new number, in its place
  pub miss_put : (k : ℕ) (v : X) (es : List (ℕ × X)) → has_key k (slice_get es (count_below k es)) ≡ false → put nat_cmp k v es ≡ list.insert es (count_below k es) (k, v)
  miss_put k v [] h = refl
  miss_put k v (e ∷ es) h =
      let there = λ (t : Bool). has_key k (slice_get (e ∷ es) (cond t (suc (count_below k es)) 0)) in
      let at = λ (t : Bool). list.insert (e ∷ es) (cond t (suc (count_below k es)) 0) (k, v) in
      let start = λ (r : Ordering). by_order r ((k, v) ∷ e ∷ es) ((e.0, v) ∷ es) (e ∷ put nat_cmp k v es) in
      ⊎_elim
      (λ b. ap start b.cmp ∙ ap (λ (t : List (ℕ × X)). e ∷ t) (miss_put k v es (sym (ap there b.lt) ∙ h)) ∙ sym (ap at b.lt))
      (λ r. ⊎_elim
      (λ s. absurd (true≢false (sym s.eq ∙ sym (ap there s.lt) ∙ h)))
      (λ a. ap start a.cmp ∙ sym (ap at a.lt))
      r)
      (compared e.0 k)

  -- the entries with other numbers
  abbrev pub others : ℕ → List (ℕ × X) → List (ℕ × X)
  others k = where_key nat_cmp (λ x. not (eq_by_cmp nat_cmp k x))

  all_others : (k : ℕ) (es : List (ℕ × X)) → T (below_all nat_cmp k es) → others k es ≡ es
  all_others k [] h = refl
  all_others k (e ∷ es) h =
      ap (λ r. cond (not (is_eq r)) (e ∷ others k es) (others k es)) (less (nat_cmp k e.0) (first _ _ h)) ∙ ap (λ (t : List (ℕ × X)). e ∷ t) (all_others k es (second _ _ h))

  pub hit_taken : (k : ℕ) (es : List (ℕ × X)) → IsRising es → has_key k (slice_get es (count_below k es)) ≡ true → list.remove es (count_below k es) ≡ others k es
  hit_taken k [] r h = absurd (true≢false (sym h))
  hit_taken k (e ∷ es) r h =
      let there = λ (t : Bool). has_key k (slice_get (e ∷ es) (cond t (suc (count_below k es)) 0)) in
      let at = λ (t : Bool). list.remove (e ∷ es) (cond t (suc (count_below k es)) 0) in
      let start = λ (r : Ordering). cond (not (is_eq r)) (e ∷ others k es) (others k es) in
      ⊎_elim
      (λ b. ap at b.lt ∙ ap (λ (t : List (ℕ × X)). e ∷ t) (hit_taken k es (second _ _ r) (sym (ap there b.lt) ∙ h)) ∙ sym (ap start b.cmp))
      (λ q. ⊎_elim
      (λ s. ap at s.lt ∙ sym (all_others k es (subst (λ (j : ℕ). T (below_all nat_cmp j es)) s.is (first _ _ r))) ∙ sym (ap start s.cmp))
      (λ a. absurd (true≢false (sym h ∙ ap there a.lt ∙ a.eq)))
      q)
      (compared e.0 k)

pub after_lt : (a b : ℕ) → nat_cmp a b ≡ Less → a < b
after_lt a b h = grind (arith, nat_tests)

module _ {X : Type 0} where
  below_at : (x j : ℕ) (d : ℕ × X) (es : List (ℕ × X)) → T (below_all nat_cmp x es) → j < length es → x < (slice_index_or es j d).0
  below_at x j d [] h l = absurd (omega arith)
  below_at x zero d (e ∷ es) h l = after_lt x e.0 (less _ (first _ _ h))
  below_at x (suc j) d (e ∷ es) h l = below_at x j d es (second _ _ h) (omega arith)

  pub parted : (k : ℕ) (es : List (ℕ × X)) → IsRising es → IsPartitionedBy (λ (e : ℕ × X). nat_lt e.0 k) es
  parted k [] h i j d le l p = absurd (omega arith)
  parted k (e ∷ es) h zero zero d le l p = p
  parted k (e ∷ es) h zero (suc j) d le l p =
      let above : e.0 < (slice_index_or es j d).0 = below_at e.0 j d es (first _ _ h) (omega arith) in
      let low : (slice_index_or es j d).0 < k = ltb-true _ _ p in
      lt-ltb e.0 k (omega arith)
  parted k (e ∷ es) h (suc i) zero d le l p = absurd (omega arith)
  parted k (e ∷ es) h (suc i) (suc j) d le l p = parted k es (second _ _ h) i j d (omega arith) (omega arith) p

  pub pointed : (k : ℕ) (es : List (ℕ × X)) (i : ℕ) → i ≤ length es → IsPartitionPoint (λ (e : ℕ × X). nat_lt e.0 k ≡ true) (λ (e : ℕ × X). nat_lt e.0 k ≡ false) es i → i ≡ count_below k es
  pointed k [] i l h = omega arith
  pointed k (e ∷ es) zero l h = sym (ap (λ t. cond t (suc (count_below k es)) 0) (h.1 0 e (omega arith) (omega arith)))
  pointed k (e ∷ es) (suc i) l h =
      ap suc (pointed k es i (omega arith) ((λ j d a b. h.0 (suc j) d (omega arith) (omega arith)), (λ j d a b. h.1 (suc j) d (omega arith) (omega arith))))
      ∙ sym (ap (λ t. cond t (suc (count_below k es)) 0) (h.0 0 e (omega arith) (omega arith)))
