use Rattle.std.proofs.Common.{◌+◌, ◌-◌, ◌++◌, refl, sym, ap, ◌∙◌, arith}
use Rattle.std.specs.FinMap.{get}
use Rattle.master_replay.proofs.Handles.{items_on, whole, stepped, given_of}
use Rattle.master_replay.proofs.checkpoint.push_chunks.Goals as goal

pub loop-number-init : goal.loop-number-init
loop-number-init c =
    let t = c.args.table.now in
    ap (λ r. c.args.items.now.items ++ r)
    (ap (items_on t.table.chunks 0) (omega arith)
    ∙ sym (whole t.table.chunks t.next_handle (λ q there. given_of t.next_handle q (get t.table.chunks q) (c.is_sound.ensures.chunks q) there)))

pub loop-number-preserved : goal.loop-number-preserved
loop-number-preserved c =
    let t = c.args.table.now in
    let n = c.loop-number.number in
    ap (λ r. r ++ items_on t.table.chunks (n + 1) (t.next_handle - (n + 1))) c.in_ok-push_chunk.ensures
    ∙ stepped t.table.chunks t.next_handle n c.loop-number.items.items _ _ (omega (arith, c.next_handle-number-end.ensures)) refl c.loop-number.invariant
