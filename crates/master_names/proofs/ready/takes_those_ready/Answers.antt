use Rattle.std.proofs.Common.{◌≡◌, ◌+◌, ◌∷◌, ◌<◌, ◌≤◌, length, drop, rules, ap, ◌∙◌, get_or}
use Rattle.std.proofs.lemmas.List.{drop_more, drop_all}
use Rattle.master_names.proofs.Snapshots.{one_more, none_left}
use Rattle.master_names.proofs.ready.takes_those_ready.Goals as goal

pub loop-snapshot-preserved : goal.loop-snapshot-preserved
loop-snapshot-preserved g c = λ new does.
    let inside : c.loop-snapshot.snapshot-index < length c.args.snapshots.now = search rules in
    let item : get_or c.args.snapshots.now c.loop-snapshot.snapshot-index c.snapshot-item.result ≡ c.snapshot-item.result = search rules in
    c.loop-snapshot.invariant new
    (one_more (g.L.OperationLog.disk c.args.log.now) c.loop-snapshot.plan c.takes_if_ready.new.plan new c.snapshot-item.result
    (drop c.loop-snapshot.snapshot-index c.args.snapshots.now) (drop (c.loop-snapshot.snapshot-index + 1) c.args.snapshots.now)
    (drop_more c.args.snapshots.now c.loop-snapshot.snapshot-index c.snapshot-item.result inside
    ∙ ap (λ x. x ∷ drop (c.loop-snapshot.snapshot-index + 1) c.args.snapshots.now) item)
    (search rules) does)

pub returns : goal.returns
returns g c =
    let past : length c.args.snapshots.now ≤ c.loop-snapshot.snapshot-index = search rules in
    c.loop-snapshot.invariant c.loop-snapshot.plan
    (none_left (g.L.OperationLog.disk c.args.log.now) c.loop-snapshot.plan (drop c.loop-snapshot.snapshot-index c.args.snapshots.now)
    (drop_all c.loop-snapshot.snapshot-index c.args.snapshots.now past))
