use Rattle.std.proofs.Common.{refl, rules}
use Rattle.std.proofs.lemmas.Result.{on_ok_weaker}
use Rattle.gfs_types.specs.declared.call.Call.TheVariants as call
use Rattle.log_records.specs.declared.record.Record.TheVariants as entries
use Rattle.protocol.specs.Sending.{client_id}
use Rattle.master_names.proofs.Parts.{changes_with}
use Rattle.master_names.proofs.calls.renames.Goals as goal

pub returns : goal.returns
returns g c =
    on_ok_weaker c.changes_names.result
    (λ s. changes_with (g.L.OperationLog.disk c.args.log.now) c.args.client.0 c.args.number (call.Rename c.args.from.now c.args.to.now) c.has_room.new.self c.args.plan.now c.changes_names.new.plan
    (entries.Rename c.args.client c.args.number c.in_ok-copy.field-0 c.in_ok-copy-2.field-0) (entries.Rename (client_id c.args.client.0) c.args.number c.args.from.now c.args.to.now) (search rules) (search rules) refl s)
    c.changes_names.ensures
