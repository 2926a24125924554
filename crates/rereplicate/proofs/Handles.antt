-- The best offer, found by going over all numbers below one that no handle reaches.
use Rattle.std.proofs.Common.{◌≡◌, ℕ, suc, zero, ◌+◌, ◌<◌, ◌≤◌, Bool, true, false, cond, ltb, leb, eqb, ◌&&◌, T, List, [], ◌∷◌, refl, sym, ap, ◌∙◌, Some, None, Option, is_some, IfSome, ◌-◌, arith}
use Rattle.std.specs.Ordering.{nat_cmp, eq_by_cmp, is_lt}
use Rattle.std.specs.declared.cmp.Ordering.TheVariants.{Less, Equal, Greater}
use Rattle.std.specs.FinMap.{get, entries, entries_sorted, get-entries}
use Rattle.chunk_table.specs.Owners.{IsSoundRow}
use Rattle.std.specs.FinMap.Entries.{find, below_all, is_sorted}
use Rattle.std.proofs.lemmas.Bool.Decides.{nat_tests}
use Rattle.chunk_table.specs.ChunkTable.{NumberTable, ChunkRow}
use Rattle.chunk_table.proofs.Lookups.{same_key, key_itself}
use Rattle.rereplicate.specs.Servers.{Servers}
use Rattle.rereplicate.specs.Clones.{Offer, offer_of, better, best_offer, offer_in, offer_at}

pub none_better : (a : Option Offer) → better a None ≡ a
none_better None = refl
none_better (Some x) = refl

through : (a b c : ℕ) → ltb a b ≡ true → ltb b c ≡ true → ltb a c ≡ true
through a b c p q = grind (arith, nat_tests)

past : (a b c : ℕ) → ltb a b ≡ false → ltb b c ≡ false → ltb a c ≡ false
past a b c p q = grind (arith, nat_tests)

assoc_some : (x y z : Offer) → better (better (Some x) (Some y)) (Some z) ≡ better (Some x) (better (Some y) (Some z))
assoc_some x y z =
    elim (ltb x.missing y.missing) as (λ p. ltb x.missing y.missing ≡ p
    → better (cond p (Some y) (Some x)) (Some z) ≡ better (Some x) (cond (ltb y.missing z.missing) (Some z) (Some y))) [
      | true ↦ λ e. elim (ltb y.missing z.missing) as (λ q. ltb y.missing z.missing ≡ q → cond q (Some z) (Some y) ≡ better (Some x) (cond q (Some z) (Some y))) [
        | true ↦ λ f. sym (ap (λ r. cond r (Some z) (Some x)) (through x.missing y.missing z.missing e f))
        | false ↦ λ f. sym (ap (λ r. cond r (Some y) (Some x)) e)
      ] refl
      | false ↦ λ e. elim (ltb y.missing z.missing) as (λ q. ltb y.missing z.missing ≡ q → better (Some x) (Some z) ≡ better (Some x) (cond q (Some z) (Some y))) [
        | true ↦ λ f. refl
        | false ↦ λ f. ap (λ r. cond r (Some z) (Some x)) (past x.missing y.missing z.missing e f) ∙ sym (ap (λ r. cond r (Some y) (Some x)) e)
      ] refl
    ] refl

pub better_assoc : (a b c : Option Offer) → better (better a b) c ≡ better a (better b c)
better_assoc None b c = refl
better_assoc (Some x) None c = refl
better_assoc (Some x) (Some y) None = none_better (better (Some x) (Some y))
better_assoc (Some x) (Some y) (Some z) = assoc_some x y z

-- the best of what stands at so many numbers, from one on
abbrev pub best_from : (ℕ → Option Offer) → ℕ → ℕ → Option Offer
best_from at start zero = None
best_from at start (suc count) = better (at start) (best_from at (start + 1) count)

pub best_alike : (f g : ℕ → Option Offer) (start count : ℕ) → ((k : ℕ) → start ≤ k → f k ≡ g k) → best_from f start count ≡ best_from g start count
best_alike f g start zero h = refl
best_alike f g start (suc count) h =
    ap (λ x. better x (best_from f (start + 1) count)) (h start (omega arith))
    ∙ ap (better (g start)) (best_alike f g (start + 1) count (λ k le. h k (omega arith)))

pub best_none : (start count : ℕ) → best_from (λ _. None) start count ≡ None
best_none start zero = refl
best_none start (suc count) = best_none (start + 1) count

-- the best of what a list's entries offer, in their order
abbrev pub best_over : {X : Type 0} → (ℕ → X → Option Offer) → List (ℕ × X) → Option Offer
best_over f [] = None
best_over f (e ∷ es) = better (f e.0 e.1) (best_over f es)

abbrev pub offered : {X : Type 0} → (ℕ → X → Option Offer) → ℕ → Option X → Option Offer
offered f k None = None
offered f k (Some x) = f k x

lesser_is : (x y : ℕ) → T (is_lt (nat_cmp x y)) → x < y
lesser_is x y h =
    elim (ltb x y) as (λ b. ltb x y ≡ b → T (is_lt (cond b Less (cond (eqb x y) Equal Greater))) → x < y) [
      | true ↦ λ e _. grind (arith, nat_tests)
      | false ↦ λ e t. absurd (elim (eqb x y) as (λ b. T (is_lt (cond b Equal Greater)) → ⊥) [ true ↦ λ t. t | false ↦ λ t. t ] t)
    ] refl h

first : (a b : Bool) → T (a && b) → T a
first true b p = tt
first false b p = p

second : (a b : Bool) → T (a && b) → T b
second true b p = p
second false b p = absurd p

pub differ : (q k : ℕ) → (q ≡ k → ⊥) → eq_by_cmp nat_cmp q k ≡ false
differ q k apart =
    elim (eq_by_cmp nat_cmp q k) as (λ b. eq_by_cmp nat_cmp q k ≡ b → b ≡ false) [
      | true ↦ λ e. absurd (apart (same_key q k e))
      | false ↦ λ e. refl
    ] refl

-- nothing stands at or before a key that is below all
found_past : {X : Type 0} (q x : ℕ) (es : List (ℕ × X)) → T (below_all nat_cmp x es) → q ≤ x → find nat_cmp q es ≡ None
found_past q x [] h le = refl
found_past q x (e ∷ es) h le =
    let lt : x < e.0 = lesser_is x e.0 (first _ _ h) in
    ap (λ b. cond b (Some e.1) (find nat_cmp q es)) (differ q e.0 (λ same. absurd (omega arith)))
    ∙ found_past q x es (second _ _ h) le

-- each key lies in a range
abbrev Within : {X : Type 0} → ℕ → ℕ → List (ℕ × X) → Type 0
Within start count es = (q : ℕ) → is_some (find nat_cmp q es) ≡ true → (start ≤ q) × (q < start + count)

not_found : {X : Type 0} (o : Option X) → o ≡ None → is_some o ≡ true → ⊥
not_found None e s = cc
not_found (Some x) e s = cc

above : (q k : ℕ) → ¬ (q ≤ k) → k < q
above q k h =
    elim (leb q k) as (λ b. leb q k ≡ b → k < q) [
      | true ↦ λ e. absurd (h (grind (arith, nat_tests)))
      | false ↦ λ e. grind (arith, nat_tests)
    ] refl

past_start : (start q : ℕ) → start ≤ q → ¬ (q ≡ start) → start + 1 ≤ q
past_start start q le apart =
    elim (eqb q start) as (λ b. eqb q start ≡ b → start + 1 ≤ q) [
      | true ↦ λ e. absurd (apart (grind (arith, nat_tests)))
      | false ↦ λ e. grind (arith, nat_tests)
    ] refl

-- the rest of a list whose first key is the start
rest_of : {X : Type 0} (start : ℕ) (e : ℕ × X) (es : List (ℕ × X)) (k : ℕ) → e.0 ≡ start → start + 1 ≤ k → find nat_cmp k (e ∷ es) ≡ find nat_cmp k es
rest_of start e es k same le = ap (λ b. cond b (Some e.1) (find nat_cmp k es)) (differ k e.0 (λ x. absurd (omega arith)))

pub scan : {X : Type 0} (f : ℕ → X → Option Offer) (count start : ℕ) (es : List (ℕ × X)) → T (is_sorted nat_cmp es) → Within start count es
    → best_over f es ≡ best_from (λ k. offered f k (find nat_cmp k es)) start count
scan f count start [] sorted within = sym (best_none start count)
scan f zero start (e ∷ es) sorted within =
    let here = within e.0 (ap (λ b. is_some (cond b (Some e.1) (find nat_cmp e.0 es))) (key_itself e.0)) in
    let a : start ≤ e.0 = here.0 in
    let b : e.0 < start + 0 = here.1 in
    absurd (omega arith)
scan f (suc count) start (e ∷ es) sorted within =
    let here = within e.0 (ap (λ b. is_some (cond b (Some e.1) (find nat_cmp e.0 es))) (key_itself e.0)) in
    let from : start ≤ e.0 = here.0 in
    elim (eqb start e.0) as (λ b. eqb start e.0 ≡ b → best_over f (e ∷ es) ≡ better (offered f start (find nat_cmp start (e ∷ es))) (best_from (λ k. offered f k (find nat_cmp k (e ∷ es))) (start + 1) count)) [
      | true ↦ λ t.
          let same : e.0 ≡ start = grind (arith, nat_tests) in
          let later : Within (start + 1) count es = λ q there. (
          let past : ¬ (q ≤ e.0) = λ le. not_found (find nat_cmp q es) (found_past q e.0 es (first _ _ sorted) le) there in
          let w = within q (ap is_some (ap (λ b. cond b (Some e.1) (find nat_cmp q es)) (differ q e.0 (λ x. past (omega arith)))) ∙ there) in
          let hi : q < start + suc count = w.1 in
          let more : e.0 < q = above q e.0 past in
          (omega arith, omega arith)) in
          let tail = best_alike (λ k. offered f k (find nat_cmp k (e ∷ es))) (λ k. offered f k (find nat_cmp k es)) (start + 1) count (λ k le. ap (offered f k) (rest_of start e es k same le)) in
          let at_start : find nat_cmp start (e ∷ es) ≡ Some e.1 = ap (λ k. find nat_cmp k (e ∷ es)) (sym same) ∙ ap (λ b. cond b (Some e.1) (find nat_cmp e.0 es)) (key_itself e.0) in
          ap (better (f e.0 e.1)) (scan f count (start + 1) es (second _ _ sorted) later ∙ sym tail)
          ∙ ap (λ k. better (f k e.1) (best_from (λ k. offered f k (find nat_cmp k (e ∷ es))) (start + 1) count)) same
          ∙ ap (λ o. better (offered f start o) (best_from (λ k. offered f k (find nat_cmp k (e ∷ es))) (start + 1) count)) (sym at_start)
      | false ↦ λ apart.
          let lt : start < e.0 = grind (arith, nat_tests) in
          let none : find nat_cmp start (e ∷ es) ≡ None =
          ap (λ b. cond b (Some e.1) (find nat_cmp start es)) (differ start e.0 (λ x. absurd (omega arith)))
          ∙ found_past start e.0 es (first _ _ sorted) (omega arith) in
          let later : Within (start + 1) count (e ∷ es) = λ q there. (
          let w = within q there in
          let lo : start ≤ q = w.0 in
          let hi : q < start + suc count = w.1 in
          let not_start : ¬ (q ≡ start) = λ same. not_found (find nat_cmp q (e ∷ es)) (ap (λ k. find nat_cmp k (e ∷ es)) same ∙ none) there in
          (past_start start q lo not_start, omega arith)) in
          scan f count (start + 1) (e ∷ es) sorted later
          ∙ ap (λ o. better (offered f start o) (best_from (λ k. offered f k (find nat_cmp k (e ∷ es))) (start + 1) count)) (sym none)
    ] refl

-- the best offer is the best of what the chunks offer
each_offers : (known : Servers) (now : ℕ) (es : List (ℕ × ChunkRow)) → best_offer known now es ≡ best_over (offer_of known now) es
each_offers known now [] = refl
each_offers known now (e ∷ es) = ap (better (offer_of known now e.0 e.1)) (each_offers known now es)

row_offers : (known : Servers) (now k : ℕ) (o : Option ChunkRow) → offered (offer_of known now) k o ≡ offer_in known now k o
row_offers known now k None = refl
row_offers known now k (Some row) = refl

module _ (known : Servers) (now : ℕ) (chunks : NumberTable ChunkRow) where
  -- the best offer from a number on
  abbrev pub best_on : ℕ → ℕ → Option Offer
  best_on start count = best_from (offer_at known now chunks) start count

  pub whole : (next : ℕ) → ((q : ℕ) → is_some (get chunks q) ≡ true → q < next) → best_offer known now (entries chunks) ≡ best_on 0 next
  whole next below =
      each_offers known now (entries chunks)
      ∙ scan (offer_of known now) next 0 (entries chunks) (entries_sorted chunks) (λ q there. (
      let lt : q < next = below q (ap is_some (get-entries chunks q) ∙ there) in
      (omega arith, omega arith)))
      ∙ best_alike (λ k. offered (offer_of known now) k (find nat_cmp k (entries chunks))) (offer_at known now chunks) 0 next
      (λ k _. row_offers known now k (find nat_cmp k (entries chunks)) ∙ ap (offer_in known now k) (sym (get-entries chunks k)))

  pub stepped : (next n : ℕ) (best o r : Option Offer) → n < next → o ≡ offer_at known now chunks n → better best (best_on n (next - n)) ≡ r
      → better (better best o) (best_on (n + 1) (next - (n + 1))) ≡ r
  stepped next n best o r lt e h =
      let counted : suc (next - (n + 1)) ≡ next - n = omega arith in
      better_assoc best o (best_on (n + 1) (next - (n + 1)))
      ∙ ap (λ x. better best (better x (best_on (n + 1) (next - (n + 1))))) e
      ∙ ap (λ c. better best (best_on n c)) counted
      ∙ h

-- a handle in the table was given out
pub given_of : (next q : ℕ) (o : Option ChunkRow) → IfSome o (IsSoundRow next q) → is_some o ≡ true → q < next
given_of next q None h e = cc
given_of next q (Some row) h e = h.given
