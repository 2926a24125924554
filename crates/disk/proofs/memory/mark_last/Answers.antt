use Rattle.std.proofs.Common.{◌≡◌, ◌∙◌, ◌-◌, Some, ap, sym, arith}
use Rattle.std.specs.Prelude.{slice_get}
use Rattle.std.proofs.lemmas.Option.{slice_get_read}
use Rattle.disk.specs.Writes.{Write}
use Rattle.disk.proofs.Calls.{marked_last}
use Rattle.disk.proofs.memory.mark_last.Goals as goal

pub returns-then-count-gt0 : goal.returns-then-count-gt0
returns-then-count-gt0 g c =
    let ws = c.args.writes.now.items in
    let k = c.len-count.result - 1 in
    let inside = c.last.inside in
    let w : Write = record { at = inside.at; old = inside.old.items; synced = inside.synced } in
    let item : slice_get ws k ≡ Some c.index_mut-last.result.now = slice_get_read ws c.len-count.result k _ (omega (arith, c.len-count.ensures, c.args.writes.now.ok.0)) (omega (arith, c.if-count-gt0.true)) c.index_mut-last.ensures.value in
    marked_last ws w k (omega (arith, c.len-count.ensures, c.if-count-gt0.true)) (item ∙ ap (λ (x : Write). Some x) (sym c.last.view_is))
