-- How many of a number's bits are set below a place.
use Rattle.std.proofs.Common.{◌≡◌, ◌≢◌, ℕ, zero, suc, ◌+◌, ◌-◌, ◌%◌, ◌^◌, ◌<◌, ◌≤◌, sym, ap, ◌∙◌, arith}
use Rattle.std.specs.Int.{bit_at}
use Rattle.std.specs.Int.RustNames.{count_ones}
use Rattle.std.proofs.lemmas.Nat.{mod-pow-add, ones_cat, ones_le_self, zero_from_ones, pow_pos, mod_below}
use Rattle.std.proofs.lemmas.Nat.Bits.{bit_at-lt}
use Rattle.std.proofs.Math.Nat.{mod-eq_of_lt}

abbrev pub rank : ℕ → ℕ → ℕ
rank m o = count_ones (m % 2 ^ o)

one_digit : (b : ℕ) → b < 2 → count_ones b ≡ b
one_digit zero h = omega (arith, ones_le_self 0)
one_digit (suc zero) h = let some : count_ones 1 ≢ 0 = (λ e. omega (arith, zero_from_ones 1 e)) in omega (arith, ones_le_self 1)
one_digit (suc (suc b)) h = absurd (omega arith)

pub rank-suc : (m o : ℕ) → rank m (suc o) ≡ rank m o + bit_at m o
rank-suc m o =
    let e : suc o ≡ 1 + o = omega arith in
    let digit = bit_at-lt m o in
    ap (λ j. count_ones (m % 2 ^ j)) e ∙ ap count_ones (mod-pow-add m 1 o) ∙ ones_cat o (bit_at m o) (m % 2 ^ o) (mod_below m (2 ^ o) (pow_pos o)) ∙ omega (arith, one_digit (bit_at m o) digit)

rank-zero : (m : ℕ) → rank m 0 ≡ 0
rank-zero m = let none : m % 1 ≡ 0 = omega arith in ap count_ones none ∙ omega (arith, ones_le_self 0)

-- bits that agree below a place
pub rank_agrees : (a b o : ℕ) → ((i : ℕ) → i < o → bit_at a i ≡ bit_at b i) → rank a o ≡ rank b o
rank_agrees a b zero h = rank-zero a ∙ sym (rank-zero b)
rank_agrees a b (suc o) h = omega (arith, rank-suc a o, rank-suc b o, h o (omega arith), rank_agrees a b o (λ i l. h i (omega arith)))

-- the rank does not fall
pub rank_grows : (m i j : ℕ) → rank m i ≤ rank m (i + j)
rank_grows m i zero = let e : i + 0 ≡ i = omega arith in omega (arith, ap (rank m) e)
rank_grows m i (suc j) = let e : i + suc j ≡ suc (i + j) = omega arith in omega (arith, ap (rank m) e, rank-suc m (i + j), rank_grows m i j)

pub rank_rises : (m k i : ℕ) → bit_at m k ≡ 1 → k < i → rank m k < rank m i
rank_rises m k i h l = let e : i ≡ suc k + (i - suc k) = omega arith in omega (arith, ap (rank m) e, rank-suc m k, rank_grows m (suc k) (i - suc k))

-- b has one more bit than a, at k
pub rank_more : (a b k j : ℕ) → bit_at a k ≡ 0 → bit_at b k ≡ 1 → ((i : ℕ) → i < suc k + j → i ≢ k → bit_at b i ≡ bit_at a i) → rank b (suc k + j) ≡ rank a (suc k + j) + 1
rank_more a b k zero p q h =
    let e : suc k + 0 ≡ suc k = omega arith in
    let below = rank_agrees a b k (λ i l. sym (h i (omega arith) (omega arith))) in
    omega (arith, ap (rank b) e, ap (rank a) e, rank-suc a k, rank-suc b k, below)
rank_more a b k (suc j) p q h =
    let e : suc k + suc j ≡ suc (suc k + j) = omega arith in
    omega (arith, ap (rank b) e, ap (rank a) e, rank-suc a (suc k + j), rank-suc b (suc k + j), h (suc k + j) (omega arith) (omega arith), rank_more a b k j p q (λ i l. h i (omega arith)))

-- all bits of a number of 32
pub rank_whole : (m : ℕ) → m < 2 ^ 32 → rank m 32 ≡ count_ones m
rank_whole m h = ap count_ones (mod-eq_of_lt h)

pub rank_within : (m k : ℕ) → m < 2 ^ 32 → k < 32 → rank m k ≤ count_ones m
rank_within m k h l = let e : 32 ≡ k + (32 - k) = omega arith in omega (arith, rank_whole m h, ap (rank m) e, rank_grows m k (32 - k))

pub rank_inside : (m k : ℕ) → m < 2 ^ 32 → k < 32 → bit_at m k ≡ 1 → rank m k < count_ones m
rank_inside m k h l p = omega (arith, rank_whole m h, rank_rises m k 32 p l)

-- a number with one more bit, at k, has one more
pub ones_more : (a b k : ℕ) → a < 2 ^ 32 → b < 2 ^ 32 → k < 32 → bit_at a k ≡ 0 → bit_at b k ≡ 1 → ((i : ℕ) → i < 32 → i ≢ k → bit_at b i ≡ bit_at a i) → count_ones b ≡ count_ones a + 1
ones_more a b k ha hb l p q h =
    let e : 32 ≡ suc k + (31 - k) = omega arith in
    omega (arith, rank_whole a ha, rank_whole b hb, ap (rank a) e, ap (rank b) e, rank_more a b k (31 - k) p q (λ i l. h i (omega arith)))
