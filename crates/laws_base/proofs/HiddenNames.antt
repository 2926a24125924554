-- The hidden names of two files differ.
use Rattle.std.proofs.Common.{◌≡◌, ℕ, zero, suc, ◌+◌, ◌-◌, ◌*◌, ◌/◌, ◌%◌, ◌≤◌, ◌<◌, Bool, true, false, cond, List, [], ◌∷◌, ◌++◌, length, take, drop, refl, sym, ap, ◌∙◌, arith, length-append, codes}
use Rattle.std.specs.Prelude.{nat_lt}
use Rattle.std.proofs.Math.Nat.{div-add-mod, mod-lt}
use Rattle.std.proofs.lemmas.Bool.{ltb-true, ltb-false}
use Rattle.std.proofs.lemmas.List.{take_at, drop_at}
use Rattle.gfs_types.specs.Paths.{Path, digit, last_digits, hidden_name}
use Rattle.gfs_types.specs.Counters.{counter_limit}

-- how many numbers so many digits can write
abbrev room : ℕ → ℕ
room zero = 1
room (suc count) = 16 * room count

same_digit : (c d : ℕ) → c < 16 → d < 16 → digit c ≡ digit d → c ≡ d
same_digit c d c_low d_low same = by_both (nat_lt c 10) (nat_lt d 10) refl refl same
  where
    by_both : (a b : Bool) → nat_lt c 10 ≡ a → nat_lt d 10 ≡ b → cond a (48 + c) (97 + (c - 10)) ≡ cond b (48 + d) (97 + (d - 10)) → c ≡ d
    by_both true true p q e = omega (arith, e)
    by_both true false p q e = absurd (let low = ltb-true c 10 p in omega (arith, e, low))
    by_both false true p q e = absurd (let low = ltb-true d 10 q in omega (arith, e, low))
    by_both false false p q e = let one = ltb-false c 10 p in let two = ltb-false d 10 q in omega (arith, e, one, two)

digits_length : (base count n : ℕ) → length (last_digits base count n) ≡ count
digits_length base zero n = refl
digits_length base (suc count) n =
    let rest = digits_length base count (n / base) in
    let whole = length-append (last_digits base count (n / base)) (digit (n % base) ∷ []) in
    omega (arith, rest, whole)

head_or : ℕ → List ℕ → ℕ
head_or d [] = d
head_or d (x ∷ xs) = x

same_last : (xs ys : List ℕ) (x y n : ℕ) → length xs ≡ n → length ys ≡ n → xs ++ x ∷ [] ≡ ys ++ y ∷ [] → (xs ≡ ys) × (x ≡ y)
unfolding head_or
same_last xs ys x y n a b same = (
  sym (take_at xs (x ∷ []) n a) ∙ ap (take n) same ∙ take_at ys (y ∷ []) n b,
  ap (head_or 0) (sym (drop_at xs (x ∷ []) n a) ∙ ap (λ (zs : List ℕ). drop n zs) same ∙ drop_at ys (y ∷ []) n b),
)

same_number_written : (count a b : ℕ) → a < room count → b < room count → last_digits 16 count a ≡ last_digits 16 count b → a ≡ b
same_number_written zero a b a_low b_low same = omega arith
same_number_written (suc count) a b a_low b_low same =
    let parts = same_last (last_digits 16 count (a / 16)) (last_digits 16 count (b / 16)) (digit (a % 16)) (digit (b % 16)) count (digits_length 16 count (a / 16)) (digits_length 16 count (b / 16)) same in
    let whole_a = div-add-mod a 16 in
    let whole_b = div-add-mod b 16 in
    let less_a : a % 16 < 16 = mod-lt a (omega arith) in
    let less_b : b % 16 < 16 = mod-lt b (omega arith) in
    let low_a : a / 16 < room count = omega (arith, whole_a, a_low) in
    let low_b : b / 16 < room count = omega (arith, whole_b, b_low) in
    let front : a / 16 ≡ b / 16 = same_number_written count (a / 16) (b / 16) low_a low_b parts.0 in
    let last : a % 16 ≡ b % 16 = same_digit (a % 16) (b % 16) less_a less_b parts.1 in
    omega (arith, whole_a, whole_b, front, last)

pub same_id_written : (a b next : ℕ) → a < next → b < next → next ≤ counter_limit → last_digits 16 16 a ≡ last_digits 16 16 b → a ≡ b
same_id_written a b next a_low b_low bound same = same_number_written 16 a b (omega (arith, a_low, bound)) (omega (arith, b_low, bound)) same

abbrev behind : ℕ → ℕ → List ℕ
behind moment id = last_digits 10 20 moment ++ codes "-" ++ last_digits 16 16 id

-- a hidden name has its file's digits
pub hidden_digits : (moment other a b : ℕ) → hidden_name moment a ≡ hidden_name other b → last_digits 16 16 a ≡ last_digits 16 16 b
hidden_digits moment other a b same =
    let one : behind moment a ≡ behind other b = ap (λ (p : Path). drop 7 p) same in
    let two : codes "-" ++ last_digits 16 16 a ≡ codes "-" ++ last_digits 16 16 b =
    sym (drop_at (last_digits 10 20 moment) (codes "-" ++ last_digits 16 16 a) 20 (digits_length 10 20 moment)) ∙ ap (λ (p : Path). drop 20 p) one
    ∙ drop_at (last_digits 10 20 other) (codes "-" ++ last_digits 16 16 b) 20 (digits_length 10 20 other) in
    ap (λ (p : Path). drop 1 p) two
