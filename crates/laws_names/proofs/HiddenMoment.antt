-- A hidden name tells its moment: what its digits write.
use Rattle.std.proofs.Common.{◌≡◌, ℕ, zero, suc, ◌+◌, ◌-◌, ◌*◌, ◌/◌, ◌%◌, ◌<◌, Bool, cond, List, [], ◌∷◌, ◌++◌, length, take, refl, ap, ◌∙◌, arith, length-append, codes}
use Rattle.std.proofs.Math.Nat.{div-add-mod, mod-lt}
use Rattle.std.proofs.lemmas.Bool.{lt-ltb}
use Rattle.std.proofs.lemmas.List.{take_at}
use Rattle.gfs_types.specs.Paths.{digit, last_digits, hidden_name}
use Rattle.protocol.specs.MasterStep.{number_from, hidden_moment}

-- the number that one more digit writes
one_more : (before : ℕ) (xs : List ℕ) (c : ℕ) → number_from before (xs ++ c ∷ []) ≡ number_from before xs * 10 + (c - 48)
one_more before [] c = refl
one_more before (x ∷ xs) c = one_more (before * 10 + (x - 48)) xs c

low_digit : (d : ℕ) → d < 10 → digit d - 48 ≡ d
low_digit d low = ap (λ (b : Bool). cond b (48 + d) (97 + (d - 10)) - 48) (lt-ltb d 10 low) ∙ omega arith

-- so many digits write them again
pub written_again : (count n : ℕ) → last_digits 10 count (number_from 0 (last_digits 10 count n)) ≡ last_digits 10 count n
written_again zero n = refl
written_again (suc count) n =
    let k : ℕ = number_from 0 (last_digits 10 count (n / 10)) in
    let d : ℕ = n % 10 in
    let low : n % 10 < 10 = mod-lt n (omega arith) in
    let whole : number_from 0 (last_digits 10 (suc count) n) ≡ k * 10 + d = one_more 0 (last_digits 10 count (n / 10)) (digit (n % 10)) ∙ ap (λ (x : ℕ). k * 10 + x) (low_digit (n % 10) low) in
    let parts = div-add-mod (k * 10 + d) 10 in
    let less : (k * 10 + d) % 10 < 10 = mod-lt (k * 10 + d) (omega arith) in
    let front : (k * 10 + d) / 10 ≡ k = omega (arith, parts, less, low) in
    let last : (k * 10 + d) % 10 ≡ d = omega (arith, parts, less, low) in
    ap (λ (x : ℕ). last_digits 10 (suc count) x) whole
    ∙ ap (λ (x : ℕ). last_digits 10 count x ++ digit ((k * 10 + d) % 10) ∷ []) front
    ∙ ap (λ (x : ℕ). last_digits 10 count k ++ digit x ∷ []) last
    ∙ ap (λ (xs : List ℕ). xs ++ digit d ∷ []) (written_again count (n / 10))

digits_length : (base count n : ℕ) → length (last_digits base count n) ≡ count
digits_length base zero n = refl
digits_length base (suc count) n =
    let rest = digits_length base count (n / base) in
    let whole = length-append (last_digits base count (n / base)) (digit (n % base) ∷ []) in
    omega (arith, rest, whole)

-- the name that hides a file at the moment that a hidden name of it tells is this name
pub moment_told : (moment file : ℕ) → hidden_name (hidden_moment (hidden_name moment file)) file ≡ hidden_name moment file
moment_told moment file =
    let rest : List ℕ = codes "-" ++ last_digits 16 16 file in
    let digits : take 20 (last_digits 10 20 moment ++ rest) ≡ last_digits 10 20 moment = take_at (last_digits 10 20 moment) rest 20 (digits_length 10 20 moment) in
    let same : last_digits 10 20 (hidden_moment (hidden_name moment file)) ≡ last_digits 10 20 moment =
    ap (λ (xs : List ℕ). last_digits 10 20 (number_from 0 xs)) digits ∙ written_again 20 moment in
    ap (λ (xs : List ℕ). codes "/.gone/" ++ xs ++ rest) same
