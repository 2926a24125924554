-- The items of a table's chunks, found by going over all numbers below one that no handle reaches.
use Rattle.std.proofs.Common.{◌≡◌, ℕ, suc, zero, ◌+◌, ◌<◌, ◌≤◌, Bool, true, false, cond, ltb, leb, eqb, ◌&&◌, T, List, [], ◌∷◌, ◌++◌, append_assoc, refl, sym, ap, ◌∙◌, Some, None, Option, is_some, IfSome, ◌-◌, arith}
use Rattle.std.specs.Prelude.{nat_lt, map, filter}
use Rattle.std.specs.Ordering.{nat_cmp, eq_by_cmp, is_lt}
use Rattle.std.specs.declared.cmp.Ordering.TheVariants.{Less, Equal, Greater}
use Rattle.std.specs.FinMap.{get, entries, entries_sorted, get-entries}
use Rattle.std.specs.FinMap.Entries.{find, below_all, is_sorted}
use Rattle.std.proofs.lemmas.Bool.Decides.{nat_tests}
use Rattle.log_records.specs.declared.record.Record.{Record}
use Rattle.chunk_table.specs.Owners.{IsSoundRow}
use Rattle.chunk_table.specs.ChunkTable.{NumberTable, ChunkRow}
use Rattle.chunk_table.proofs.Lookups.{same_key, key_itself}
use Rattle.protocol.specs.Logged.{chunk_item}
use Rattle.master_replay.specs.Checkpoints.{owned_items, items_at}

-- what stands at so many numbers, from one on
abbrev pub items_from : (ℕ → List Record) → ℕ → ℕ → List Record
items_from at start zero = []
items_from at start (suc count) = at start ++ items_from at (start + 1) count

alike : (f g : ℕ → List Record) (start count : ℕ) → ((k : ℕ) → start ≤ k → f k ≡ g k) → items_from f start count ≡ items_from g start count
alike f g start zero h = refl
alike f g start (suc count) h =
    ap (λ x. x ++ items_from f (start + 1) count) (h start (omega arith)) ∙ ap (λ r. g start ++ r) (alike f g (start + 1) count (λ k le. h k (omega arith)))

nothing : (start count : ℕ) → items_from (λ _. []) start count ≡ []
nothing start zero = refl
nothing start (suc count) = nothing (start + 1) count

lesser_is : (x y : ℕ) → T (is_lt (nat_cmp x y)) → x < y
lesser_is x y h =
    elim (ltb x y) as (λ b. ltb x y ≡ b → T (is_lt (cond b Less (cond (eqb x y) Equal Greater))) → x < y) [
      | true ↦ λ e _. grind (arith, nat_tests)
      | false ↦ λ e t. absurd (elim (eqb x y) as (λ b. T (is_lt (cond b Equal Greater)) → ⊥) [ true ↦ λ t. t | false ↦ λ t. t ] t)
    ] refl h

first : (a b : Bool) → T (a && b) → T a
first true b p = tt
first false b p = p

second : (a b : Bool) → T (a && b) → T b
second true b p = p
second false b p = absurd p

differ : (q k : ℕ) → (q ≡ k → ⊥) → eq_by_cmp nat_cmp q k ≡ false
differ q k apart =
    elim (eq_by_cmp nat_cmp q k) as (λ b. eq_by_cmp nat_cmp q k ≡ b → b ≡ false) [
      | true ↦ λ e. absurd (apart (same_key q k e))
      | false ↦ λ e. refl
    ] refl

-- nothing stands at or before a key that is below all
found_past : (q x : ℕ) (es : List (ℕ × ChunkRow)) → T (below_all nat_cmp x es) → q ≤ x → find nat_cmp q es ≡ None
found_past q x [] h le = refl
found_past q x (e ∷ es) h le =
    let lt : x < e.0 = lesser_is x e.0 (first _ _ h) in
    ap (λ b. cond b (Some e.1) (find nat_cmp q es)) (differ q e.0 (λ same. absurd (omega arith)))
    ∙ found_past q x es (second _ _ h) le

-- each key lies in a range
abbrev Within : ℕ → ℕ → List (ℕ × ChunkRow) → Type 0
Within start count es = (q : ℕ) → is_some (find nat_cmp q es) ≡ true → (start ≤ q) × (q < start + count)

not_found : {X : Type 0} (o : Option X) → o ≡ None → is_some o ≡ true → ⊥
not_found None e s = cc
not_found (Some x) e s = cc

above : (q k : ℕ) → ¬ (q ≤ k) → k < q
above q k h =
    elim (leb q k) as (λ b. leb q k ≡ b → k < q) [
      | true ↦ λ e. absurd (h (grind (arith, nat_tests)))
      | false ↦ λ e. grind (arith, nat_tests)
    ] refl

past_start : (start q : ℕ) → start ≤ q → ¬ (q ≡ start) → start + 1 ≤ q
past_start start q le apart =
    elim (eqb q start) as (λ b. eqb q start ≡ b → start + 1 ≤ q) [
      | true ↦ λ e. absurd (apart (grind (arith, nat_tests)))
      | false ↦ λ e. grind (arith, nat_tests)
    ] refl

-- the rest of a list whose first key is the start
rest_of : (start : ℕ) (e : ℕ × ChunkRow) (es : List (ℕ × ChunkRow)) (k : ℕ) → e.0 ≡ start → start + 1 ≤ k → find nat_cmp k (e ∷ es) ≡ find nat_cmp k es
rest_of start e es k same le = ap (λ b. cond b (Some e.1) (find nat_cmp k es)) (differ k e.0 (λ x. absurd (omega arith)))

owned_first : (e : ℕ × ChunkRow) (es : List (ℕ × ChunkRow)) → owned_items (e ∷ es) ≡ items_at e.0 (Some e.1) ++ owned_items es
owned_first e es = elim (nat_lt 0 e.1.references) as (λ b.
    map chunk_item (cond b (e ∷ filter (λ x. nat_lt 0 x.1.references) es) (filter (λ x. nat_lt 0 x.1.references) es))
    ≡ cond b (chunk_item e ∷ []) [] ++ owned_items es) [ true ↦ refl | false ↦ refl ]

scan : (count start : ℕ) (es : List (ℕ × ChunkRow)) → T (is_sorted nat_cmp es) → Within start count es
    → owned_items es ≡ items_from (λ k. items_at k (find nat_cmp k es)) start count
scan count start [] sorted within = sym (nothing start count)
scan zero start (e ∷ es) sorted within =
    let here = within e.0 (ap (λ b. is_some (cond b (Some e.1) (find nat_cmp e.0 es))) (key_itself e.0)) in
    let a : start ≤ e.0 = here.0 in
    let b : e.0 < start + 0 = here.1 in
    absurd (omega arith)
scan (suc count) start (e ∷ es) sorted within =
    let here = within e.0 (ap (λ b. is_some (cond b (Some e.1) (find nat_cmp e.0 es))) (key_itself e.0)) in
    let from : start ≤ e.0 = here.0 in
    elim (eqb start e.0) as (λ b. eqb start e.0 ≡ b
    → owned_items (e ∷ es) ≡ items_at start (find nat_cmp start (e ∷ es)) ++ items_from (λ k. items_at k (find nat_cmp k (e ∷ es))) (start + 1) count) [
      | true ↦ λ t.
          let same : e.0 ≡ start = grind (arith, nat_tests) in
          let later : Within (start + 1) count es = λ q there. (
          let past : ¬ (q ≤ e.0) = λ le. not_found (find nat_cmp q es) (found_past q e.0 es (first _ _ sorted) le) there in
          let w = within q (ap is_some (ap (λ b. cond b (Some e.1) (find nat_cmp q es)) (differ q e.0 (λ x. past (omega arith)))) ∙ there) in
          let hi : q < start + suc count = w.1 in
          let more : e.0 < q = above q e.0 past in
          (omega arith, omega arith)) in
          let tail = alike (λ k. items_at k (find nat_cmp k (e ∷ es))) (λ k. items_at k (find nat_cmp k es)) (start + 1) count (λ k le. ap (items_at k) (rest_of start e es k same le)) in
          let at_start : find nat_cmp start (e ∷ es) ≡ Some e.1 = ap (λ k. find nat_cmp k (e ∷ es)) (sym same) ∙ ap (λ b. cond b (Some e.1) (find nat_cmp e.0 es)) (key_itself e.0) in
          owned_first e es
          ∙ ap (λ r. items_at e.0 (Some e.1) ++ r) (scan count (start + 1) es (second _ _ sorted) later ∙ sym tail)
          ∙ ap (λ k. items_at k (Some e.1) ++ items_from (λ k. items_at k (find nat_cmp k (e ∷ es))) (start + 1) count) same
          ∙ ap (λ o. items_at start o ++ items_from (λ k. items_at k (find nat_cmp k (e ∷ es))) (start + 1) count) (sym at_start)
      | false ↦ λ f.
          let lt : start < e.0 = grind (arith, nat_tests) in
          let none : find nat_cmp start (e ∷ es) ≡ None =
          ap (λ b. cond b (Some e.1) (find nat_cmp start es)) (differ start e.0 (λ x. absurd (omega arith)))
          ∙ found_past start e.0 es (first _ _ sorted) (omega arith) in
          let later : Within (start + 1) count (e ∷ es) = λ q there. (
          let w = within q there in
          let lo : start ≤ q = w.0 in
          let hi : q < start + suc count = w.1 in
          let not_start : ¬ (q ≡ start) = λ same. not_found (find nat_cmp q (e ∷ es)) (ap (λ k. find nat_cmp k (e ∷ es)) same ∙ none) there in
          (past_start start q lo not_start, omega arith)) in
          scan count (start + 1) (e ∷ es) sorted later
          ∙ ap (λ o. items_at start o ++ items_from (λ k. items_at k (find nat_cmp k (e ∷ es))) (start + 1) count) (sym none)
    ] refl

module _ (chunks : NumberTable ChunkRow) where
  -- the items of the chunks from a number on
  abbrev pub items_on : ℕ → ℕ → List Record
  items_on start count = items_from (λ k. items_at k (get chunks k)) start count

  pub whole : (next : ℕ) → ((q : ℕ) → is_some (get chunks q) ≡ true → q < next) → owned_items (entries chunks) ≡ items_on 0 next
  whole next below =
      scan next 0 (entries chunks) (entries_sorted chunks) (λ q there. (
      let lt : q < next = below q (ap is_some (get-entries chunks q) ∙ there) in
      (omega arith, omega arith)))
      ∙ alike (λ k. items_at k (find nat_cmp k (entries chunks))) (λ k. items_at k (get chunks k)) 0 next (λ k _. ap (items_at k) (sym (get-entries chunks k)))

  pub stepped : (next n : ℕ) (done added all : List Record) → n < next → added ≡ items_at n (get chunks n) → done ++ items_on n (next - n) ≡ all
      → (done ++ added) ++ items_on (n + 1) (next - (n + 1)) ≡ all
  stepped next n done added all lt e h =
      let counted : suc (next - (n + 1)) ≡ next - n = omega arith in
      append_assoc done added (items_on (n + 1) (next - (n + 1)))
      ∙ ap (λ x. done ++ (x ++ items_on (n + 1) (next - (n + 1)))) e
      ∙ ap (λ c. done ++ items_on n c) counted
      ∙ h

-- a handle in the table was given out
pub given_of : (next q : ℕ) (o : Option ChunkRow) → IfSome o (IsSoundRow next q) → is_some o ≡ true → q < next
given_of next q None h e = cc
given_of next q (Some row) h e = h.given
