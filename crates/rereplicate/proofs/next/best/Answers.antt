use Rattle.std.proofs.Common.{◌+◌, ◌-◌, sym, ap, ◌∙◌, arith}
use Rattle.std.specs.FinMap.{get}
use Rattle.rereplicate.specs.Clones.{better}
use Rattle.rereplicate.proofs.Handles.{best_on, whole, stepped, given_of}
use Rattle.rereplicate.proofs.next.best.Goals as goal

pub loop-number-init : goal.loop-number-init
loop-number-init g c =
    let known = g.H.Holders.servers c.args.holders.now in
    let now = c.args.now.0 in
    let t = c.args.table.now in
    ap (best_on known now t.table.chunks 0) (omega arith)
    ∙ sym (whole known now t.table.chunks t.next_handle (λ q there. given_of t.next_handle q (get t.table.chunks q) (c.is_sound.ensures.chunks q) there))

pub loop-number-preserved : goal.loop-number-preserved
loop-number-preserved g c =
    let known = g.H.Holders.servers c.args.holders.now in
    let now = c.args.now.0 in
    let t = c.args.table.now in
    let chunks = t.table.chunks in
    let n = c.loop-number.number in
    ap (λ b. better b (best_on known now chunks (n + 1) (t.next_handle - (n + 1)))) c.better-best.ensures
    ∙ stepped known now chunks t.next_handle n c.loop-number.best c.offer_at.result _ (omega (arith, c.next_handle-number-end.ensures)) c.offer_at.ensures c.loop-number.invariant
