use Rattle.std.proofs.Common.{refl, rules}
use Rattle.std.proofs.lemmas.Result.{on_ok_weaker}
use Rattle.gfs_types.specs.declared.call.Call.TheVariants as call
use Rattle.log_records.specs.declared.record.Record.TheVariants as entries
use Rattle.protocol.specs.Sending.{client_id}
use Rattle.master_names.proofs.Parts.{changes_with}
use Rattle.master_names.proofs.calls.makes_directory.Goals as goal

pub returns : goal.returns
returns g c =
    on_ok_weaker c.changes_names.result
    (λ s. changes_with (g.L.OperationLog.disk c.args.log.now) c.args.client.0 c.args.number (call.Mkdir c.args.path.now) c.has_room.new.self c.args.plan.now c.changes_names.new.plan
    (entries.Mkdir c.args.client c.args.number c.in_ok-copy.field-0) (entries.Mkdir (client_id c.args.client.0) c.args.number c.args.path.now) (search rules) (search rules) refl s)
    c.changes_names.ensures
