use Rattle.std.proofs.Common.{None, rules}
use Rattle.std.proofs.lemmas.Result.{on_ok_weaker}
use Rattle.log_records.specs.declared.record.Record.TheVariants as entries
use Rattle.protocol.specs.Sending.{client_id}
use Rattle.master_names.proofs.Parts.{settles_with}
use Rattle.master_names.proofs.calls.removes_directory.Goals as goal

pub returns : goal.returns
returns g c =
    on_ok_weaker c.settles_name.result
    (λ s. settles_with (g.L.OperationLog.disk c.args.log.now) c.args.client.0 c.args.number None c.args.plan.now c.settles_name.new.plan
    (entries.Rmdir c.args.client c.args.number c.in_ok-copy.field-0) (entries.Rmdir (client_id c.args.client.0) c.args.number c.args.path.now) (search rules) s)
    c.settles_name.ensures
