use Rattle.std.proofs.Common.{rules, ◌≡◌, ◌+◌, ◌<◌, true, length, take, get_or, min, sym, subst}
use Rattle.master_waiting.specs.Due.{are_due_from}
use Rattle.master_waiting.proofs.Bounds.{due_next}
use Rattle.master_waiting.proofs.waiting_snapshots.earliest_of.Goals as goal

pub loop-snapshot-preserved : goal.loop-snapshot-preserved
loop-snapshot-preserved c =
    let l = c.loop-snapshot in
    let ss = c.args.snapshots.now in
    let s = c.snapshot-item.result in
    let inside : l.snapshot-index < length ss = search rules in
    let item : get_or ss l.snapshot-index s ≡ s = search rules in
    let more = due_next l.earliest ss l.snapshot-index s inside item l.invariant in
    subst (λ n. are_due_from n (take (l.snapshot-index + 1) ss) ≡ true) (sym (let is : c.min-earliest.result ≡ min l.earliest s.deadline = search rules in is)) more
