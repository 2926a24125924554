use Rattle.std.proofs.Common.{◌≡◌, ◌+◌, ◌<◌, Some, List, ◌∷◌, ap, sym, ◌∙◌, arith, refl, drop, length, replicate, ℕ, subst, true}
use Rattle.std.specs.Prelude.{slice_get}
use Rattle.std.proofs.lemmas.Option.{slice_get_read}
use Rattle.disk.specs.Bytes.{put_at}
use Rattle.disk.specs.Pages.{PagesState, all_taken, bytes_of}
use Rattle.disk.specs.Writes.{Write, all_fit, filled}
use Rattle.disk.proofs.Calls.{fits_cons}
use Rattle.disk.proofs.Stops.{drop_step}
use Rattle.disk.proofs.Taken.{both_kept, taken_cons}
use Rattle.disk.proofs.memory.fill_ranges.Goals as goal

pub loop-write-preserved : goal.loop-write-preserved
loop-write-preserved g c =
    let ws : List Write = c.args.writes.now in
    let before : PagesState = c.loop-write.bytes in
    let i = c.loop-write.write-index in
    let inside = c.write.inside in
    let w : Write = record { at = inside.at; old = inside.old.items; synced = inside.synced } in
    let rest : List Write = drop (i + 1) ws in
    let below : i < length ws = omega (arith, c.loop-write-test.true) in
    let item : slice_get ws i ≡ Some w = slice_get_read ws (length ws) i _ refl below c.write-item.is ∙ ap (λ (x : Write). Some x) (sym c.write.view_is) in
    let next : drop i ws ≡ w ∷ rest = drop_step ws i (i + 1) w refl item in
    let fit : all_fit before.size (w ∷ rest) ≡ true = subst (λ (l : List Write). all_fit before.size l ≡ true) next c.loop-write.invariant.1 in
    let taken : all_taken before.pages (w ∷ rest) ≡ true = subst (λ (l : List Write). all_taken before.pages l ≡ true) next c.loop-write.invariant.2 in
    let kept = both_kept before c.fill.new.self c.fill.ensures.keeps rest ((fits_cons before.size w rest fit).1, (taken_cons before.pages w rest taken).1) in
    let count : c.len.result ≡ length inside.old.items = omega (arith, c.len.ensures, inside.old.ok.0) in
    let is : bytes_of c.fill.new.self ≡ put_at (bytes_of before) w.at (replicate (length w.old) c.args.byte) = c.fill.ensures.put ∙ ap (λ (n : ℕ). put_at (bytes_of before) w.at (replicate n c.args.byte)) count in (
      ap (filled c.args.byte rest) is ∙ ap (λ (l : List Write). filled c.args.byte l (bytes_of before)) (sym next) ∙ c.loop-write.invariant.0,
      kept.0,
      kept.1,
    )
