-- Bytes that are written over.
use Rattle.std.proofs.Common.{◌≡◌, ℕ, ◌+◌, ◌≤◌, List, ◌++◌, length, take, drop, refl, sym, ap, ◌∙◌, arith, length-append}
use Rattle.std.proofs.lemmas.List.{take_at, drop_at, append_assoc, length-take-le, length-drop, drop-drop, take-append-drop}
use Rattle.disk.specs.Device.{ChangesOnly}
use Rattle.disk.specs.Bytes.{put_at, range_at}

pub length_put : (s w : List ℕ) (a : ℕ) → a + length w ≤ length s → length (put_at s a w) ≡ length s
length_put s w a fit = omega (arith, length-append (take a s ++ w) (drop (a + length w) s), length-append (take a s) w, length-take-le a s (omega (arith, fit)), length-drop (a + length w) s, fit)

-- what is elsewhere stays
pub put_changes : (s w : List ℕ) (a : ℕ) → a + length w ≤ length s → ChangesOnly a (length w) s (put_at s a w)
put_changes s w a fit =
    let front : length (take a s) ≡ a = length-take-le a s (omega (arith, fit)) in
    let both : length (take a s ++ w) ≡ a + length w = omega (arith, length-append (take a s) w, front) in record {
      before = ap (λ (l : List ℕ). take a l) (append_assoc (take a s) w (drop (a + length w) s)) ∙ take_at (take a s) (w ++ drop (a + length w) s) a front;
      after = drop_at (take a s ++ w) (drop (a + length w) s) (a + length w) both;
      size = length_put s w a fit;
    }

pub changes_back : (a n : ℕ) (old new : List ℕ) → ChangesOnly a n old new → ChangesOnly a n new old
changes_back a n old new is = record { before = sym is.before; after = sym is.after; size = sym is.size }

pub changes_nothing : (a n : ℕ) (s : List ℕ) → ChangesOnly a n s s
changes_nothing a n s = record { before = refl; after = refl; size = refl }

pub length_range : (s : List ℕ) (a n : ℕ) → a + n ≤ length s → length (range_at s a n) ≡ n
length_range s a n fit = length-take-le n (drop a s) (omega (arith, length-drop a s, fit))

-- what was written over is put back
pub put_back : (s w : List ℕ) (a : ℕ) → a + length w ≤ length s → put_at (put_at s a w) a (range_at s a (length w)) ≡ s
put_back s w a fit =
    let n = length w in
    let p = put_at s a w in
    let is = put_changes s w a fit in
    let r = range_at s a n in
    let rest : drop (a + length r) p ≡ drop n (drop a s) = ap (λ (k : ℕ). drop (a + k) p) (length_range s a n fit) ∙ is.after ∙ sym (drop-drop n a s) in
    ap (λ (l : List ℕ). l ++ r ++ drop (a + length r) p) is.before
    ∙ ap (λ (l : List ℕ). take a s ++ r ++ l) rest
    ∙ append_assoc (take a s) r (drop n (drop a s))
    ∙ ap (λ (l : List ℕ). take a s ++ l) (take-append-drop n (drop a s))
    ∙ take-append-drop a s
