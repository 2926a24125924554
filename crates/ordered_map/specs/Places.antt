-- Blocks of 32 consecutive numbers, as finite maps.
use Rattle.std.specs.Prelude.{ℕ, zero, suc, ◌+◌, ◌*◌, ◌%◌, ◌^◌, ◌==◌, cond, List, [], ◌∷◌, Option, Some, None, slice_get}
use Rattle.std.specs.Ordering.{nat_cmp}
use Rattle.std.specs.Int.{bit_at}
use Rattle.std.specs.Int.RustNames.{count_ones}
use Rattle.std.specs.FinMap as map
use Rattle.std.specs.FinMap.{FinMap}

-- m with what is given at a number
abbrev pub at_number : {X : Type 0} → FinMap nat_cmp X → ℕ → Option X → FinMap nat_cmp X
at_number m q None = map.remove m q
at_number m q (Some v) = map.insert m q v

-- m with what f has at its first n places, which are the numbers from `first` on
unfoldable pub with_places : {X : Type 0} → ℕ → (ℕ → Option X) → FinMap nat_cmp X → ℕ → FinMap nat_cmp X
with_places first f m zero = m
with_places first f m (suc n) = at_number (with_places first f m n) (first + n) (f n)

-- the value at a place, where the bits say which places have one
abbrev pub value_at : {X : Type 0} → ℕ → List X → ℕ → Option X
value_at present values place = cond (bit_at present place == 1) (slice_get values (count_ones (present % 2 ^ place))) None

-- the values of a block, by their places
unfoldable pub block_values : {X : Type 0} → ℕ → List X → FinMap nat_cmp X
block_values present values = with_places 0 (value_at present values) map.empty 32

-- the values of all blocks, by their numbers
unfoldable pub numbers : {X : Type 0} → List (ℕ × FinMap nat_cmp X) → FinMap nat_cmp X
numbers [] = map.empty
numbers (e ∷ es) = with_places (e.0 * 32) (map.get e.1) (numbers es) 32
