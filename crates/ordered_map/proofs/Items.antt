-- What is found in a list after an edit of it, and in a block's values by their places.
use Rattle.std.proofs.Common.{◌≡◌, ◌≢◌, ℕ, zero, suc, ◌+◌, ◌-◌, ◌<◌, ◌≤◌, ◌==◌, false, true≢false, IsTrue, cond, List, [], ◌∷◌, length, Option, Some, None, refl, sym, ap, ◌∙◌, arith}
use Rattle.std.specs.Prelude.{slice_get, slice_set}
use Rattle.std.specs.List.{insert, remove, ItemBy}
use Rattle.std.specs.Option.{option_map}
use Rattle.std.specs.Int.{bit_at}
use Rattle.ordered_map.specs.Places.{value_at}
use Rattle.std.proofs.lemmas.Bool.{cases_lt}
use Rattle.std.proofs.lemmas.Option.{slice_get_past, slice_get_read}
use Rattle.std.proofs.lemmas.Nat.Bits.{bit_at-lt}
use Rattle.std.proofs.Math.Logic.{◌⊎◌, inl, inr, ⊎_elim}
use Rattle.ordered_map.proofs.Ranks.{rank, rank-suc, rank_agrees, rank_grows, rank_more, rank_rises}

one_or_none : (b : ℕ) → b < 2 → (b ≡ 0) ⊎ (b ≡ 1)
one_or_none zero h = inl refl
one_or_none (suc zero) h = inr refl
one_or_none (suc (suc b)) h = absurd (omega arith)

pub not_set : (m k : ℕ) → (bit_at m k ≡ 1 → IsTrue false) → bit_at m k ≡ 0
not_set m k h = ⊎_elim (λ z. z) (λ o. absurd (true≢false (sym (h o)))) (one_or_none (bit_at m k) (bit_at-lt m k))

-- what `get` of a list lends
pub item_found : {R X : Type 0} (now : R → X) (xs : List X) (i : ℕ) (r : Option R) → ItemBy now xs i i r → option_map now r ≡ slice_get xs i
item_found now xs i None h = sym (slice_get_past xs i h.3)
item_found now xs i (Some x) h = sym (slice_get_read xs (length xs) i (now x) refl h.3.0 h.1)

-- two places that have a value have not the same rank
apart : (m k i : ℕ) → bit_at m k ≡ 1 → bit_at m i ≡ 1 → i ≢ k → rank m i ≢ rank m k
apart m k i h o ne same =
    ⊎_elim
    (λ below. let l : rank m i < rank m k = rank_rises m i k o below in omega arith)
    (λ above. let l : rank m k < rank m i = rank_rises m k i h (omega arith) in omega arith)
    (cases_lt i k)

module _ {X : Type 0} where
  got_before : (xs : List X) (i k : ℕ) (y : X) → k < i → i ≤ length xs → slice_get (insert xs i y) k ≡ slice_get xs k
  got_before xs zero k y l h = absurd (omega arith)
  got_before [] (suc i) k y l h = absurd (omega arith)
  got_before (x ∷ xs) (suc i) zero y l h = refl
  got_before (x ∷ xs) (suc i) (suc k) y l h = got_before xs i k y (omega arith) (omega arith)

  got_at : (xs : List X) (i : ℕ) (y : X) → i ≤ length xs → slice_get (insert xs i y) i ≡ Some y
  got_at xs zero y h = refl
  got_at [] (suc i) y h = absurd (omega arith)
  got_at (x ∷ xs) (suc i) y h = got_at xs i y (omega arith)

  got_after : (xs : List X) (i k : ℕ) (y : X) → i ≤ k → i ≤ length xs → slice_get (insert xs i y) (suc k) ≡ slice_get xs k
  got_after xs zero k y l h = refl
  got_after [] (suc i) k y l h = absurd (omega arith)
  got_after (x ∷ xs) (suc i) zero y l h = absurd (omega arith)
  got_after (x ∷ xs) (suc i) (suc k) y l h = got_after xs i k y (omega arith) (omega arith)

  left_before : (xs : List X) (i k : ℕ) → k < i → slice_get (remove xs i) k ≡ slice_get xs k
  left_before xs zero k l = absurd (omega arith)
  left_before [] (suc i) k l = refl
  left_before (x ∷ xs) (suc i) zero l = refl
  left_before (x ∷ xs) (suc i) (suc k) l = left_before xs i k (omega arith)

  left_after : (xs : List X) (i k : ℕ) → i ≤ k → slice_get (remove xs i) k ≡ slice_get xs (suc k)
  left_after [] zero k l = refl
  left_after [] (suc i) k l = refl
  left_after (x ∷ xs) zero k l = refl
  left_after (x ∷ xs) (suc i) zero l = absurd (omega arith)
  left_after (x ∷ xs) (suc i) (suc k) l = left_after xs i k (omega arith)

  set_at : (xs : List X) (i : ℕ) (y : X) → i < length xs → slice_get (slice_set xs i y) i ≡ Some y
  set_at [] i y h = absurd (omega arith)
  set_at (x ∷ xs) zero y h = refl
  set_at (x ∷ xs) (suc i) y h = set_at xs i y (omega arith)

  set_other : (xs : List X) (i k : ℕ) (y : X) → k ≢ i → slice_get (slice_set xs i y) k ≡ slice_get xs k
  set_other [] i k y h = refl
  set_other (x ∷ xs) zero zero y h = absurd (h refl)
  set_other (x ∷ xs) zero (suc k) y h = refl
  set_other (x ∷ xs) (suc i) zero y h = refl
  set_other (x ∷ xs) (suc i) (suc k) y h = set_other xs i k y (λ e. h (ap suc e))

  -- whether a place has a value
  pub there : (m i : ℕ) (xs : List X) → bit_at m i ≡ 1 → value_at m xs i ≡ slice_get xs (rank m i)
  there m i xs h = ap (λ b. cond (b == 1) (slice_get xs (rank m i)) None) h

  pub nothing : (m i : ℕ) (xs : List X) → bit_at m i ≡ 0 → value_at m xs i ≡ None
  nothing m i xs h = ap (λ b. cond (b == 1) (slice_get xs (rank m i)) None) h

  -- values that agree at each place that has one
  agrees : (m n i : ℕ) (xs ys : List X) → bit_at n i ≡ bit_at m i → (bit_at m i ≡ 1 → slice_get ys (rank n i) ≡ slice_get xs (rank m i)) → value_at n ys i ≡ value_at m xs i
  agrees m n i xs ys e h =
      ⊎_elim
      (λ z. nothing n i ys (e ∙ z) ∙ sym (nothing m i xs z))
      (λ o. there n i ys (e ∙ o) ∙ h o ∙ sym (there m i xs o))
      (one_or_none (bit_at m i) (bit_at-lt m i))

  -- another value at k
  pub written_at : (m k : ℕ) (xs : List X) (w : X) → bit_at m k ≡ 1 → rank m k < length xs → value_at m (slice_set xs (rank m k) w) k ≡ Some w
  written_at m k xs w h l = there m k _ h ∙ set_at xs (rank m k) w l

  pub written_other : (m k i : ℕ) (xs : List X) (w : X) → bit_at m k ≡ 1 → i ≢ k → value_at m (slice_set xs (rank m k) w) i ≡ value_at m xs i
  written_other m k i xs w h ne =
      agrees m m i xs (slice_set xs (rank m k) w) refl (λ o. set_other xs (rank m k) (rank m i) w (apart m k i h o ne))

  -- a value more, at k
  pub added_at : (m n k : ℕ) (xs : List X) (w : X) → bit_at n k ≡ 1 → ((i : ℕ) → i < 32 → i ≢ k → bit_at n i ≡ bit_at m i) → k < 32 → rank m k ≤ length xs
      → value_at n (insert xs (rank m k) w) k ≡ Some w
  added_at m n k xs w h e l r =
      let same = rank_agrees n m k (λ j q. e j (omega arith) (omega arith)) in
      there n k _ h ∙ ap (slice_get (insert xs (rank m k) w)) same ∙ got_at xs (rank m k) w r

  pub added_other : (m n k i : ℕ) (xs : List X) (w : X) → bit_at m k ≡ 0 → bit_at n k ≡ 1 → ((i : ℕ) → i < 32 → i ≢ k → bit_at n i ≡ bit_at m i) → i < 32 → rank m k ≤ length xs → i ≢ k
      → value_at n (insert xs (rank m k) w) i ≡ value_at m xs i
  added_other m n k i xs w z h e l r ne =
      agrees m n i xs (insert xs (rank m k) w) (e i l ne) (λ o.
      ⊎_elim
      (λ below. let same = rank_agrees n m i (λ j q. e j (omega arith) (omega arith)) in
      ap (slice_get (insert xs (rank m k) w)) same ∙ got_before xs (rank m k) (rank m i) w (rank_rises m i k o below) r)
      (λ above. let at : i ≡ suc k + (i - suc k) = omega arith in
      let more : rank n i ≡ suc (rank m i) = omega (arith, ap (rank n) at, ap (rank m) at, rank_more m n k (i - suc k) z h (λ j q. e j (omega arith))) in
      let from : rank m k ≤ rank m i = omega (arith, ap (rank m) at, rank-suc m k, rank_grows m (suc k) (i - suc k)) in
      ap (slice_get (insert xs (rank m k) w)) more ∙ got_after xs (rank m k) (rank m i) w from r)
      (cases_lt i k))

  -- without the value at k
  pub taken_other : (m n k i : ℕ) (xs : List X) → bit_at m k ≡ 1 → bit_at n k ≡ 0 → ((i : ℕ) → i < 32 → i ≢ k → bit_at n i ≡ bit_at m i) → i < 32 → i ≢ k
      → value_at n (remove xs (rank m k)) i ≡ value_at m xs i
  taken_other m n k i xs h z e l ne =
      agrees m n i xs (remove xs (rank m k)) (e i l ne) (λ o.
      ⊎_elim
      (λ below. let same = rank_agrees n m i (λ j q. e j (omega arith) (omega arith)) in
      ap (slice_get (remove xs (rank m k))) same ∙ left_before xs (rank m k) (rank m i) (rank_rises m i k o below))
      (λ above. let at : i ≡ suc k + (i - suc k) = omega arith in
      let more : rank m i ≡ suc (rank n i) = omega (arith, ap (rank n) at, ap (rank m) at, rank_more n m k (i - suc k) z h (λ j q ne. sym (e j (omega arith) ne))) in
      let from : rank m k ≤ rank n i = omega (arith, rank_rises m k i h (omega arith)) in
      left_after xs (rank m k) (rank n i) from ∙ ap (slice_get xs) (sym more))
      (cases_lt i k))
