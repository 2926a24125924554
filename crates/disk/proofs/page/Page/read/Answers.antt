use Rattle.std.proofs.Common.{◌≡◌, ◌+◌, ◌-◌, ◌≤◌, ◌⊎◌, inl, inr, ℕ, List, ◌++◌, ◌∙◌, ap, length, take, drop, replicate, arith, length-append}
use Rattle.std.proofs.lemmas.List.{take_at, length-drop}
use Rattle.disk.specs.Pages.{bytes_in}
use Rattle.disk.proofs.Ranges.{length_range}
use Rattle.disk.proofs.Places.{below_or, read_in, zeros_in}
use Rattle.disk.proofs.page.Page.read.Goals as goal

pub returns-then-at-stored : goal.returns-then-at-stored
returns-then-at-stored g c =
    let page : List ℕ = c.self.inside.bytes.items in
    c.fill_with_zeros.ensures
    ∙ zeros_in page c.args.at (length c.args.out.now) (omega (arith, c.if-at-stored.true, c.len-stored.ensures, c.self.inside.bytes.ok.0))
    ∙ ap (λ (l : List ℕ). bytes_in l c.args.at (length c.args.out.now)) c.self.view_is

pub returns : goal.returns
returns g c =
    let page : List ℕ = c.self.inside.bytes.items in
    let at = c.args.at in
    let k = c.min-known.result in
    let out : List ℕ = c.args.out.now in
    let m = length out in
    let front : List ℕ = take k (drop at page) in
    let stored : c.len-stored.result ≡ length page = omega (arith, c.len-stored.ensures, c.self.inside.bytes.ok.0) in
    let fits : at + k ≤ length page = omega (arith, stored, c.min-known.ensures, c.if-at-stored.false) in
    let less : k ≤ m = omega (arith, c.min-known.ensures) in
    let count : length front ≡ k = length_range page at k fits in
    let same : at + k - at ≡ k = omega arith in
    let piece : take (at + k - at) (drop at c.deref.result.now) ≡ front = ap (λ (n : ℕ). take n (drop at c.deref.result.now)) same ∙ ap (λ (l : List ℕ). take k (drop at l)) c.deref.ensures.value in
    let copied : c.copy_to_front.new.out ≡ front ++ drop (length front) out = c.copy_to_front.ensures ∙ ap (λ (l : List ℕ). l ++ drop (length l) out) piece in
    let all : length c.copy_to_front.new.out ≡ m = omega (arith, ap length copied, length-append front (drop (length front) out), length-drop (length front) out, count, less) in
    c.fill_rest.ensures
    ∙ ap (λ (n : ℕ). take k c.copy_to_front.new.out ++ replicate (n - k) 0) all
    ∙ ap (λ (l : List ℕ). l ++ replicate (m - k) 0) (ap (take k) copied ∙ take_at front (drop (length front) out) k count)
    ∙ read_in page at k m less fits (end stored)
    ∙ ap (λ (l : List ℕ). bytes_in l at m) c.self.view_is
  where
    end : c.len-stored.result ≡ length c.self.inside.bytes.items → (c.min-known.result ≡ length c.args.out.now) ⊎ (c.args.at + c.min-known.result ≡ length c.self.inside.bytes.items)
    end stored = elim (below_or (length c.args.out.now) (c.len-stored.result - c.args.at)) [
      | inl less ↦ inl (omega (arith, less, c.min-known.ensures))
      | inr rest ↦ inr (omega (arith, rest, c.min-known.ensures, c.if-at-stored.false, stored))
    ]
