use Rattle.std.proofs.Common.{◌≡◌, ◌+◌, ◌-◌, ◌%◌, ◌<◌, ◌≤◌, ℕ, List, ◌∙◌, ap, sym, length, take, drop, arith}
use Rattle.std.proofs.lemmas.List.{length-take-le}
use Rattle.disk.specs.Bytes.{put_at, range_at}
use Rattle.disk.specs.Pages.{PagesState, bytes_of, page_size}
use Rattle.disk.proofs.Ranges.{length_range}
use Rattle.disk.proofs.Places.{first_more, has_place, length_bytes, piece_there, place_is, put_put, within_page}
use Rattle.disk.proofs.pages.Pages.put.Goals as goal

pub put_page-requires-clause-taken : goal.put_page-requires-clause-taken
put_page-requires-clause-taken g c =
    let bytes : List ℕ = c.args.bytes.now in
    let done = c.loop-done.done in
    let a = c.args.at + done in
    let n = c.min-piece.result in
    let same : done + n - done ≡ n = omega arith in
    let fits : done + n ≤ length bytes = omega (arith, c.min-piece.ensures, c.min-count.ensures, c.loop-done-test.true) in
    let count : length (take (done + n - done) (drop done bytes)) ≡ n = ap (λ (m : ℕ). length (take m (drop done bytes))) same ∙ length_range bytes done n fits in
    let within : a % page_size + n ≤ page_size = omega (arith, c.min-piece.ensures, within_page a) in
    let some : 0 < n = omega (arith, c.min-piece.ensures, c.loop-done-test.true, within_page a) in
    let from : c.args.at ≤ a + (n - 1) = omega arith in
    let to : a + (n - 1) < c.args.at + length bytes = omega (arith, fits, some) in
    let has = c.loop-done.invariant.1.pages (a + (n - 1)) (has_place c.args.self.now.pages c.args.at (length bytes) (a + (n - 1)) c.requires.taken from to) in
    let there = piece_there c.loop-done.self.pages a n within some has in
    omega (arith, there, count)

pub loop-done-preserved : goal.loop-done-preserved
loop-done-preserved g c =
    let p : PagesState = c.args.self.now in
    let bytes : List ℕ = c.args.bytes.now in
    let at = c.args.at in
    let done = c.loop-done.done in
    let a = at + done in
    let n = c.min-piece.result in
    let same : done + n - done ≡ n = omega arith in
    let fits : done + n ≤ length bytes = omega (arith, c.min-piece.ensures, c.min-count.ensures, c.loop-done-test.true) in
    let front : List ℕ = take done bytes in
    let piece : List ℕ = range_at bytes done n in
    let before : length front ≡ done = length-take-le done bytes (omega (arith, fits)) in
    let count : length piece ≡ n = length_range bytes done n fits in
    let place : at + length front ≡ a = omega (arith, before) in
    let room : at + length front + length piece ≤ length (bytes_of p) = omega (arith, before, count, fits, c.requires.room, length_bytes p) in
    let keeps = c.loop-done.invariant.1 in (
      c.put_page.ensures.put
          ∙ ap (λ (m : ℕ). put_at (bytes_of c.loop-done.self) m (take (done + n - done) (drop done bytes))) (place_is a ∙ sym place)
          ∙ ap (λ (m : ℕ). put_at (bytes_of c.loop-done.self) (at + length front) (take m (drop done bytes))) same
          ∙ ap (λ (s : List ℕ). put_at s (at + length front) piece) c.loop-done.invariant.0
          ∙ put_put (bytes_of p) front piece at room
          ∙ ap (λ (l : List ℕ). put_at (bytes_of p) at l) (first_more bytes done n fits),
      record { size = c.put_page.ensures.keeps.size ∙ keeps.size; pages = λ k h. c.put_page.ensures.keeps.pages k (keeps.pages k h) },
      omega (arith, c.min-piece.ensures, c.loop-done-test.true),
    )
