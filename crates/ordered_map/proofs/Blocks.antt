-- What becomes of a block's values where one of its places changes.
use Rattle.std.proofs.Common.{◌≡◌, ◌≢◌, ℕ, ◌+◌, ◌*◌, ◌%◌, ◌^◌, ◌<◌, ◌≤◌, List, length, Some, None, sym, ap, ◌∙◌, arith, bit_and, bit_or}
use Rattle.std.specs.Prelude.{slice_get, slice_set}
use Rattle.std.specs.List as list
use Rattle.std.specs.Ordering.{nat_cmp}
use Rattle.std.specs.Int.{bit_at, w32, bit_not}
use Rattle.std.specs.Int.RustNames.{count_ones}
use Rattle.std.specs.FinMap.{get, insert, remove, empty, same_map, nat_cmp-IsAntisymmetric, get-empty}
use Rattle.std.specs.Cmp.{nat_cmp_total}
use Rattle.std.proofs.lemmas.Bool.{cases_lt}
use Rattle.std.proofs.lemmas.Nat.{or_lt, and_le_l, one_shl, pow_below}
use Rattle.std.proofs.lemmas.Nat.Bits.{bit_at_set_same, bit_at_set_other, bit_at_clear_same, bit_at_clear_other, bit_at-zero}
use Rattle.std.proofs.Math.Logic.{⊎_elim}
use Rattle.ordered_map.specs.Places.{value_at, block_values}
use Rattle.ordered_map.proofs.Ranks.{rank, rank_within, rank_inside, ones_more}
use Rattle.ordered_map.proofs.Items.{there, nothing, written_at, written_other, added_at, added_other, taken_other}
use Rattle.ordered_map.proofs.NumberPlaces.{inside, outside, one_place}

-- m with the bit of a place set, and without it
abbrev pub with_bit : ℕ → ℕ → ℕ
with_bit m k = bit_or m (1 * 2 ^ k % 2 ^ 32)

abbrev pub without_bit : ℕ → ℕ → ℕ
without_bit m k = bit_and m (bit_not w32 (1 * 2 ^ k % 2 ^ 32))

with_bit-lt : (m k : ℕ) → m < 2 ^ 32 → k < 32 → with_bit m k < 2 ^ 32
with_bit-lt m k h l = or_lt 32 m _ h (omega (arith, one_shl k 32 l, pow_below k 32 l))

without_bit-lt : (m k : ℕ) → m < 2 ^ 32 → without_bit m k < 2 ^ 32
without_bit-lt m k h = omega (arith, and_le_l m (bit_not w32 (1 * 2 ^ k % 2 ^ 32)))

pub ones_with : (m k : ℕ) → m < 2 ^ 32 → k < 32 → bit_at m k ≡ 0 → count_ones (with_bit m k) ≡ count_ones m + 1
ones_with m k h l z = ones_more m (with_bit m k) k h (with_bit-lt m k h l) l z (bit_at_set_same w32 m k l) (λ i _ ne. bit_at_set_other w32 m k l i ne)

pub ones_without : (m k : ℕ) → m < 2 ^ 32 → k < 32 → bit_at m k ≡ 1 → count_ones m ≡ count_ones (without_bit m k) + 1
ones_without m k h l o = ones_more (without_bit m k) m k (without_bit-lt m k h) h l (bit_at_clear_same w32 m k l) o (λ i low ne. sym (bit_at_clear_other w32 m k l i low ne))

module _ {X : Type 0} where
  pub get-block_values : (m k : ℕ) (xs : List X) → k < 32 → get (block_values m xs) k ≡ value_at m xs k
  unfolding block_values
  get-block_values m k xs l = let e : k ≡ 0 + k = omega arith in ap (get (block_values m xs)) e ∙ inside 0 (value_at m xs) empty 32 k l

  pub got : (m k : ℕ) (xs : List X) → k < 32 → bit_at m k ≡ 1 → get (block_values m xs) k ≡ slice_get xs (rank m k)
  got m k xs l o = get-block_values m k xs l ∙ there m k xs o

  pub not_got : (m k : ℕ) (xs : List X) → k < 32 → bit_at m k ≡ 0 → get (block_values m xs) k ≡ None
  not_got m k xs l z = get-block_values m k xs l ∙ nothing m k xs z

  pub without_any : (xs : List X) → block_values 0 xs ≡ empty
  unfolding block_values
  without_any xs = same_map nat_cmp_total nat_cmp-IsAntisymmetric _ _ (λ q.
      ⊎_elim
      (λ small. not_got 0 q xs small (bit_at-zero q) ∙ sym (get-empty nat_cmp q))
      (λ large. outside 0 (value_at 0 xs) empty 32 q (λ i l e. absurd (omega arith)))
      (cases_lt q 32))

  module _ (m k : ℕ) (xs : List X) (fits : m < 2 ^ 32) (l : k < 32) (whole : count_ones m ≡ length xs) where
    pub written : (w : X) → bit_at m k ≡ 1 → block_values m (slice_set xs (rank m k) w) ≡ insert (block_values m xs) k w
    unfolding block_values
    written w o = one_place (value_at m xs) (value_at m (slice_set xs (rank m k) w)) k (Some w) l (written_at m k xs w o (omega (arith, rank_inside m k fits l o))) (λ i _ ne. written_other m k i xs w o ne)

    pub added : (w : X) → bit_at m k ≡ 0 → block_values (with_bit m k) (list.insert xs (rank m k) w) ≡ insert (block_values m xs) k w
    unfolding block_values
    added w z =
        let n = with_bit m k in
        let same = bit_at_set_same w32 m k l in
        let others : (i : ℕ) → i < 32 → i ≢ k → bit_at n i ≡ bit_at m i = λ i _ ne. bit_at_set_other w32 m k l i ne in
        let within : rank m k ≤ length xs = omega (arith, rank_within m k fits l) in
        one_place (value_at m xs) (value_at n (list.insert xs (rank m k) w)) k (Some w) l (added_at m n k xs w same others l within) (λ i low ne. added_other m n k i xs w z same others low within ne)

    pub taken : bit_at m k ≡ 1 → block_values (without_bit m k) (list.remove xs (rank m k)) ≡ remove (block_values m xs) k
    unfolding block_values
    taken o =
        let n = without_bit m k in
        let same = bit_at_clear_same w32 m k l in
        one_place (value_at m xs) (value_at n (list.remove xs (rank m k))) k None l (nothing n k _ same) (λ i low ne. taken_other m n k i xs o same (λ i low ne. bit_at_clear_other w32 m k l i low ne) low ne)
