use Rattle.std.proofs.Common.{rules}
use Rattle.std.proofs.lemmas.Result.{on_ok_weaker}
use Rattle.log_records.specs.declared.record.Record.TheVariants as entries
use Rattle.master_names.proofs.Snapshots.{takes}
use Rattle.master_names.proofs.ready.takes_snapshot.Goals as goal

pub returns : goal.returns
returns g c =
    on_ok_weaker c.changes_names.result
    (λ s. takes (g.L.OperationLog.disk c.args.log.now) c.args.plan.now c.changes_names.new.plan c.args.snapshot.now c.lets_go.new.plan c.has_room_to_copy.new.self
    c.client-client.result.0 c.number-call.result (entries.Snapshot c.client-client.result c.number-call.result c.in_ok-from.from c.in_ok-to.to)
    c.lets_go.ensures (search rules) (search rules) (search rules) (search rules) s)
    c.changes_names.ensures
