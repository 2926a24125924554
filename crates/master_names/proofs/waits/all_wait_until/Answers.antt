use Rattle.std.proofs.Common.{rules, ◌≡◌, ◌+◌, ◌<◌, length, take, get_or, min, sym, subst}
use Rattle.master_waiting.specs.Due.{WaitAt}
use Rattle.master_names.proofs.LeasedChunks.{next_waits}
use Rattle.master_names.proofs.waits.all_wait_until.Goals as goal

pub loop-snapshot-preserved : goal.loop-snapshot-preserved
loop-snapshot-preserved g c =
    let l = c.loop-snapshot in
    let ss = c.args.snapshots.now in
    let logged = c.args.plan.now.logged in
    let s = c.snapshot-item.result in
    let moment = c.in-Some.moment in
    let inside : l.snapshot-index < length ss = search rules in
    let item : get_or ss l.snapshot-index s ≡ s = search rules in
    let more = next_waits logged ss l.snapshot-index s l.until moment inside item l.invariant c.in-Some.ensures in
    subst (WaitAt logged (take (l.snapshot-index + 1) ss)) (sym (let is : c.min-until.result ≡ min l.until moment = search rules in is)) more
