-- Changes within a range, seen as changes of that range.
use Rattle.std.proofs.Common.{◌≡◌, ℕ, ◌+◌, ◌-◌, ◌<◌, ◌≤◌, List, length, take, drop, sym, ap, ◌∙◌, length-drop, arith}
use Rattle.std.proofs.lemmas.List.{ext_get_or, get_or-take, get_or-drop, length-take-le}
use Rattle.disk.specs.Device.{ChangesOnly}
use Rattle.disk_redo.proofs.Ranges.{same_after, same_before}

pub widened : (a m at n : ℕ) (d c : List ℕ) → ChangesOnly at n d c → a + m ≤ length d → a ≤ at → at + n ≤ a + m → ChangesOnly a m d c
widened a m at n d c is fit from to =
    let size : length c ≡ length d = is.size in
    let here : length (take a c) ≡ a = length-take-le a c (omega (arith, size, fit)) in
    let there : length (take a d) ≡ a = length-take-le a d (omega (arith, fit)) in
    record {
      before = ext_get_or 0 (take a c) (take a d) (here ∙ sym there) (λ i lt.
          let low : i < a = omega (arith, lt, here) in
          get_or-take a c i 0 low ∙ same_before at n d c is i (omega (arith, low, from)) ∙ sym (get_or-take a d i 0 low));
      after = ext_get_or 0 (drop (a + m) c) (drop (a + m) d) (length-drop (a + m) c ∙ ap (λ (k : ℕ). k - (a + m)) size ∙ sym (length-drop (a + m) d)) (λ i lt.
          get_or-drop (a + m) c i 0 ∙ same_after at n d c is (a + m + i) (omega (arith, to)) ∙ sym (get_or-drop (a + m) d i 0));
      size = size;
    }

pub then_changed : (a m : ℕ) (d e c : List ℕ) → ChangesOnly a m d e → ChangesOnly a m e c → ChangesOnly a m d c
then_changed a m d e c first second = record {
  before = second.before ∙ first.before;
  after = second.after ∙ first.after;
  size = second.size ∙ first.size;
}
