-- Ranges of bytes, where others change.
use Rattle.std.proofs.Common.{◌≡◌, ◌⊎◌, ℕ, ◌+◌, ◌-◌, ◌<◌, ◌≤◌, List, ◌++◌, length, get_or, take, drop, refl, sym, ap, ◌∙◌, append_assoc, length-append, length-drop, take-append-drop, arith, inl, inr}
use Rattle.std.proofs.lemmas.List.{ext_get_or, get_or-take, get_or-drop, length-take-le, drop-drop, take_at, drop_at}
use Rattle.disk.specs.Bytes.{put_at, range_at}
use Rattle.disk.specs.Device.{ChangesOnly}

pub length_range : (s : List ℕ) (a n : ℕ) → a + n ≤ length s → length (range_at s a n) ≡ n
length_range s a n fit = length-take-le n (drop a s) (omega (arith, length-drop a s, fit))

pub get_range : (s : List ℕ) (a n i : ℕ) → i < n → get_or (range_at s a n) i 0 ≡ get_or s (a + i) 0
get_range s a n i lt = get_or-take n (drop a s) i 0 lt ∙ get_or-drop a s i 0

pub same_before : (at n : ℕ) (d c : List ℕ) → ChangesOnly at n d c → (i : ℕ) → i < at → get_or c i 0 ≡ get_or d i 0
same_before at n d c is i lt = sym (get_or-take at c i 0 lt) ∙ ap (λ (l : List ℕ). get_or l i 0) is.before ∙ get_or-take at d i 0 lt

pub same_after : (at n : ℕ) (d c : List ℕ) → ChangesOnly at n d c → (i : ℕ) → at + n ≤ i → get_or c i 0 ≡ get_or d i 0
same_after at n d c is i le =
    let split : at + n + (i - (at + n)) ≡ i = omega (arith, le) in
    ap (λ (j : ℕ). get_or c j 0) (sym split) ∙ sym (get_or-drop (at + n) c (i - (at + n)) 0)
    ∙ ap (λ (l : List ℕ). get_or l (i - (at + n)) 0) is.after
    ∙ get_or-drop (at + n) d (i - (at + n)) 0 ∙ ap (λ (j : ℕ). get_or d j 0) split

same_elsewhere : (at n : ℕ) (d c : List ℕ) → ChangesOnly at n d c → (i : ℕ) → (i < at) ⊎ (at + n ≤ i) → get_or c i 0 ≡ get_or d i 0
same_elsewhere at n d c is i (inl lt) = same_before at n d c is i lt
same_elsewhere at n d c is i (inr le) = same_after at n d c is i le

place_outside : (a m at n i : ℕ) → (a + m ≤ at) ⊎ (at + n ≤ a) → i < m → (a + i < at) ⊎ (at + n ≤ a + i)
place_outside a m at n i (inl le) lt = inl (omega (arith, le, lt))
place_outside a m at n i (inr le) lt = inr (omega (arith, le, lt))

-- a range that the change doesn't touch
pub range_outside : (a m at n : ℕ) (d c : List ℕ) → ChangesOnly at n d c → a + m ≤ length d → (a + m ≤ at) ⊎ (at + n ≤ a) → range_at c a m ≡ range_at d a m
range_outside a m at n d c is fit side =
    let here : length (range_at c a m) ≡ m = length_range c a m (omega (arith, is.size, fit)) in
    let there : length (range_at d a m) ≡ m = length_range d a m fit in
    ext_get_or 0 (range_at c a m) (range_at d a m) (here ∙ sym there) (λ i lt.
    let below : i < m = omega (arith, lt, here) in
    get_range c a m i below ∙ same_elsewhere at n d c is (a + i) (place_outside a m at n i side below) ∙ sym (get_range d a m i below))

-- a range in which the change lies
pub range_inside : (a m at n : ℕ) (d c : List ℕ) → ChangesOnly at n d c → a + m ≤ length d → a ≤ at → at + n ≤ a + m → ChangesOnly (at - a) n (range_at d a m) (range_at c a m)
range_inside a m at n d c is fit from to =
    let here : length (range_at c a m) ≡ m = length_range c a m (omega (arith, is.size, fit)) in
    let there : length (range_at d a m) ≡ m = length_range d a m fit in
    let k = at - a in
    let front : length (take k (range_at c a m)) ≡ k = length-take-le k (range_at c a m) (omega (arith, here, from, to)) in
    let old_front : length (take k (range_at d a m)) ≡ k = length-take-le k (range_at d a m) (omega (arith, there, from, to)) in
    record {
      before = ext_get_or 0 (take k (range_at c a m)) (take k (range_at d a m)) (front ∙ sym old_front) (λ i lt.
          let low : i < at - a = omega (arith, lt, front) in
          let below : i < m = omega (arith, low, from, to) in
          get_or-take k (range_at c a m) i 0 low ∙ get_range c a m i below ∙ same_before at n d c is (a + i) (omega (arith, low, from)) ∙ sym (get_range d a m i below) ∙ sym (get_or-take k (range_at d a m) i 0 low));
      after = ext_get_or 0 (drop (k + n) (range_at c a m)) (drop (k + n) (range_at d a m)) (length-drop (k + n) (range_at c a m) ∙ ap (λ (l : ℕ). l - (k + n)) (here ∙ sym there) ∙ sym (length-drop (k + n) (range_at d a m))) (λ i lt.
          let below : k + n + i < m = omega (arith, lt, length-drop (k + n) (range_at c a m), here) in
          get_or-drop (k + n) (range_at c a m) i 0 ∙ get_range c a m (k + n + i) below ∙ same_after at n d c is (a + (k + n + i)) (omega (arith, from)) ∙ sym (get_range d a m (k + n + i) below) ∙ sym (get_or-drop (k + n) (range_at d a m) i 0));
      size = here ∙ sym there;
    }

-- what was written stands there
pub range_put : (d bytes : List ℕ) (at : ℕ) → at + length bytes ≤ length d → range_at (put_at d at bytes) at (length bytes) ≡ bytes
range_put d bytes at fit =
    let front : length (take at d) ≡ at = length-take-le at d (omega (arith, fit)) in
    let rest = drop (at + length bytes) d in
    ap (λ (l : List ℕ). take (length bytes) l) (ap (λ (l : List ℕ). drop at l) (append_assoc (take at d) bytes rest) ∙ drop_at (take at d) (bytes ++ rest) at front)
    ∙ take_at bytes rest (length bytes) refl

pub put_changes : (d bytes : List ℕ) (at : ℕ) → at + length bytes ≤ length d → ChangesOnly at (length bytes) d (put_at d at bytes)
put_changes d bytes at fit =
    let front : length (take at d) ≡ at = length-take-le at d (omega (arith, fit)) in
    let rest = drop (at + length bytes) d in
    let both : length (take at d ++ bytes) ≡ at + length bytes = length-append (take at d) bytes ∙ ap (λ (k : ℕ). k + length bytes) front in
    record {
      before = ap (λ (l : List ℕ). take at l) (append_assoc (take at d) bytes rest) ∙ take_at (take at d) (bytes ++ rest) at front;
      after = drop_at (take at d ++ bytes) rest (at + length bytes) both;
      size = omega (arith, length-append (take at d ++ bytes) rest, both, length-drop (at + length bytes) d, fit);
    }

-- a range of a range
pub range_range : (d : List ℕ) (a m at n : ℕ) → a + m ≤ length d → a ≤ at → at + n ≤ a + m → range_at (range_at d a m) (at - a) n ≡ range_at d at n
range_range d a m at n fit from to =
    let there : length (range_at d a m) ≡ m = length_range d a m fit in
    let inner : length (range_at (range_at d a m) (at - a) n) ≡ n = length_range (range_at d a m) (at - a) n (omega (arith, there, from, to)) in
    let outer : length (range_at d at n) ≡ n = length_range d at n (omega (arith, fit, to)) in
    ext_get_or 0 (range_at (range_at d a m) (at - a) n) (range_at d at n) (inner ∙ sym outer) (λ i lt.
    let below : i < n = omega (arith, lt, inner) in
    let place : a + (at - a + i) ≡ at + i = omega (arith, from) in
    get_range (range_at d a m) (at - a) n i below ∙ get_range d a m (at - a + i) (omega (arith, below, from, to)) ∙ ap (λ (j : ℕ). get_or d j 0) place ∙ sym (get_range d at n i below))

-- before a place, in a range, and after it
pub three_parts : (s : List ℕ) (k n : ℕ) → s ≡ take k s ++ (range_at s k n ++ drop (k + n) s)
three_parts s k n =
    sym (take-append-drop k s) ∙ ap (λ (l : List ℕ). take k s ++ l) (sym (take-append-drop n (drop k s)) ∙ ap (λ (l : List ℕ). range_at s k n ++ l) (drop-drop n k s))
