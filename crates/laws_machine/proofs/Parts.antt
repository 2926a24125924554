-- The parts of a range lie side by side, from the first one on.
use Rattle.std.proofs.Common.{◌≡◌, ℕ, zero, suc, ◌+◌, ◌-◌, ◌*◌, ◌/◌, ◌≤◌, ◌<◌, Bool, true, false, refl, arith}
use Rattle.std.specs.Prelude.{nat_lt, min}
use Rattle.std.proofs.lemmas.Bool.{ltb-true, ltb-false, lt-ltb}
use Rattle.std.proofs.Math.Nat.{div-mul-le_self, lt-div-mul-add, mul-le-mul_right, suc-mul, min-le_left, min-le_right, le-min}
use Rattle.relaxed_file.specs.Parts.{part_start, part_end, has_part}

min_cases : (a b n : ℕ) → n < min a b → (n < a) × (n < b)
min_cases a b n h = let one = min-le_left a b in let two = min-le_right a b in (omega (arith, h, one), omega (arith, h, two))

-- no part lies below the first one
pub none_below : (size offset count part : ℕ) → has_part size offset count part ≡ true → offset / size ≤ part
none_below size offset count part has = by_test (nat_lt part (offset / size)) refl
  where
    inside : part_start size offset part < part_end size offset count part
    inside = ltb-true (part_start size offset part) (part_end size offset count part) has

    by_test : (b : Bool) → nat_lt part (offset / size) ≡ b → offset / size ≤ part
    by_test false is = ltb-false part (offset / size) is
    by_test true is =
        let below : suc part ≤ offset / size = ltb-true part (offset / size) is in
        let one : suc part * size ≤ offset / size * size = mul-le-mul_right size below in
        let two : offset / size * size ≤ offset = div-mul-le_self offset size in
        let three = (min_cases ((offset + count) - part * size) size (offset - part * size) inside).1 in
        let whole : suc part * size ≡ part * size + size = suc-mul part size in
        absurd (omega (arith, one, two, three, whole))

-- nor beyond the first chunk that has none, past the first one
pub none_beyond : (size offset count index part : ℕ) → offset / size ≤ index → has_part size offset count (suc index) ≡ false → has_part size offset count part ≡ true → part < suc index
none_beyond size offset count index part begun none has = by_test (nat_lt part (suc index)) refl
  where
    inside : part_start size offset part < part_end size offset count part
    inside = ltb-true (part_start size offset part) (part_end size offset count part) has

    outside : part_end size offset count (suc index) ≤ part_start size offset (suc index)
    outside = ltb-false (part_start size offset (suc index)) (part_end size offset count (suc index)) none

    by_test : (b : Bool) → nat_lt part (suc index) ≡ b → part < suc index
    by_test true is = ltb-true part (suc index) is
    by_test false is =
        let above : suc index ≤ part = ltb-false part (suc index) is in
        let one : suc index * size ≤ part * size = mul-le-mul_right size above in
        let in_range = min_cases ((offset + count) - part * size) size (offset - part * size) inside in
        let two = in_range.0 in
        let three = in_range.1 in
        let some : zero < size = omega (arith, three) in
        let first : offset < offset / size * size + size = lt-div-mul-add some in
        let before : offset / size * size ≤ index * size = mul-le-mul_right size begun in
        let whole : suc index * size ≡ index * size + size = suc-mul index size in
        let last : 1 ≤ min ((offset + count) - suc index * size) size = le-min (omega (arith, one, two)) (omega (arith, some)) in
        absurd (omega (arith, outside, first, before, whole, last))

-- the first one is there
pub first_there : (size offset count : ℕ) → 1 ≤ size → 1 ≤ count → has_part size offset count (offset / size) ≡ true
first_there size offset count some any =
    let low : offset / size * size ≤ offset = div-mul-le_self offset size in
    let high : offset < offset / size * size + size = lt-div-mul-add (let more : zero < size = omega (arith, some) in more) in
    lt-ltb (part_start size offset (offset / size)) (part_end size offset count (offset / size)) (le-min (omega (arith, low, high, any)) (omega (arith, low, high)))

-- none where there is nothing
pub none_of_nothing : (size offset count index : ℕ) → count ≡ 0 → has_part size offset count index ≡ true → ⊥
none_of_nothing size offset count index none has =
    let inside : part_start size offset index < part_end size offset count index = ltb-true (part_start size offset index) (part_end size offset count index) has in
    let below = (min_cases ((offset + count) - index * size) size (offset - index * size) inside).0 in
    omega (arith, below, none)
