use Rattle.std.proofs.Common.{◌≡◌, ◌+◌, ◌/◌, ◌%◌, ◌≤◌, ℕ, List, ◌++◌, ◌∙◌, ap, sym, length, take, drop, arith, length-append}
use Rattle.std.proofs.lemmas.List.{length-take-le, take_at}
use Rattle.disk.specs.Bytes.{put_at, range_at}
use Rattle.disk.specs.Pages.{PagesState, bytes_in, bytes_of, page_at, page_size}
use Rattle.disk.proofs.Ranges.{length_put, length_range}
use Rattle.disk.proofs.Places.{length_bytes, range_in_page, range_more, within_page}
use Rattle.disk.proofs.pages.Pages.read.Goals as goal

pub loop-done-preserved : goal.loop-done-preserved
loop-done-preserved g c =
    let p : PagesState = c.args.self.now in
    let at = c.args.at in
    let done = c.loop-done.done in
    let a = at + done in
    let n = c.min-piece.result in
    let out : List ℕ = c.loop-done.out in
    let size : c.self.inside.size ≡ p.size = ap (λ (q : PagesState). q.size) c.self.view_is in
    let inside : a + n ≤ p.size = omega (arith, size, c.min-piece.ensures, c.min-count.ensures, c.loop-done-test.true, c.requires) in
    let within : a % page_size + n ≤ page_size = omega (arith, c.min-piece.ensures, within_page a) in
    let piece : List ℕ = range_at (bytes_of p) a n in
    let same : c.deref.result.now ≡ p.pages = c.deref.ensures.value ∙ ap (λ (q : PagesState). q.pages) c.self.view_is in
    let read : bytes_in (page_at c.deref.result.now (a / page_size)) (a % page_size) n ≡ piece =
    ap (λ (l : List (List ℕ)). bytes_in (page_at l (a / page_size)) (a % page_size) n) same ∙ sym (range_in_page p a n within inside) in
    let is : c.read_into.new.out ≡ put_at out done piece = c.read_into.ensures ∙ ap (λ (l : List ℕ). put_at out done l) read in
    let count : length piece ≡ n = length_range (bytes_of p) a n (omega (arith, inside, length_bytes p)) in
    let fits : done + length piece ≤ length out = omega (arith, count, c.loop-done.invariant.1, c.min-count.ensures, c.min-piece.ensures, c.loop-done-test.true) in
    let front : length (take done out ++ piece) ≡ done + n = omega (arith, length-append (take done out) piece, length-take-le done out (omega (arith, fits)), count) in (
      ap (take (done + n)) is
          ∙ take_at (take done out ++ piece) (drop (done + length piece) out) (done + n) front
          ∙ ap (λ (l : List ℕ). l ++ piece) c.loop-done.invariant.0
          ∙ range_more (bytes_of p) at done n (omega (arith, inside, length_bytes p)),
      ap length is ∙ length_put out piece done fits ∙ c.loop-done.invariant.1,
      omega (arith, c.min-piece.ensures, c.loop-done-test.true),
    )
