-- What a numeral's value says of the number that it writes.
use Rattle.std.proofs.Common.{◌≡◌, ◌==◌, ℕ, ◌+◌, ◌-◌, ◌*◌, ◌^◌, ◌<◌, ◌≤◌, suc, true, false, List, [], ◌∷◌, length, drop, get_or, Some, None, arith, ap, sym, ◌∙◌}
use Rattle.std.proofs.Math.Seq.{drop-cons}
use Rattle.std.proofs.lemmas.List.{at_drop_all}
use Rattle.std.proofs.lemmas.Bool.Decides.{nat_tests}
use Rattle.script.specs.Numbers.{digit_of, all_digits, value_after, number_of}

pub digit_is : (c d : ℕ) → digit_of c ≡ Some d → d ≡ c - 48
digit_is c d h = grind (arith, nat_tests)

-- further digits make no number less
pub value_grows : (n : ℕ) (cs : List ℕ) → n ≤ value_after n cs
value_grows n [] = omega arith
value_grows n (c ∷ cs) = omega (arith, value_grows (10 * n + (c - 48)) cs)

pub too_great : (word : List ℕ) → 2 ^ 64 ≤ value_after 0 word → number_of word ≡ None
too_great word big = grind (arith, nat_tests)

-- a digit that passes the limit leaves no number
pub passes_limit : (n i : ℕ) (word : List ℕ) → i < length word → value_after n (drop i word) ≡ value_after 0 word
    → 2 ^ 64 ≤ 10 * n + (get_or word i 0 - 48) → number_of word ≡ None
passes_limit n i word below same big =
    let one : value_after n (drop i word) ≡ value_after (10 * n + (get_or word i 0 - 48)) (drop (suc i) word)
    = ap (value_after n) (drop-cons word i 0 below) in
    too_great word (omega (arith, value_grows (10 * n + (get_or word i 0 - 48)) (drop (suc i) word), one, same))

pub fits : (word : List ℕ) → false ≡ (length word == 0) → all_digits word ≡ true → value_after 0 word < 2 ^ 64 → number_of word ≡ Some (value_after 0 word)
fits word some digits small = grind (arith, nat_tests)

-- all digits were read
pub whole : (n i : ℕ) (word : List ℕ) → false ≡ (length word == 0) → length word ≤ i → value_after n (drop i word) ≡ value_after 0 word
    → all_digits (drop i word) ≡ all_digits word → n < 2 ^ 64 → Some n ≡ number_of word
whole n i word some past same digits small =
    let value : n ≡ value_after 0 word = sym (at_drop_all (value_after n) word i past) ∙ same in
    let all : all_digits word ≡ true = sym digits ∙ at_drop_all all_digits word i past in
    ap Some value ∙ sym (fits word some all (omega arith))
