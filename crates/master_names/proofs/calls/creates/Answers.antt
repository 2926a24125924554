use Rattle.std.proofs.Common.{refl, Some, rules}
use Rattle.std.proofs.lemmas.Result.{on_ok_weaker}
use Rattle.gfs_types.specs.declared.call.Call.TheVariants as call
use Rattle.log_records.specs.declared.record.Record.TheVariants as entries
use Rattle.protocol.specs.Sending.{client_id, file_id}
use Rattle.protocol.specs.MasterNames.{told_shape}
use Rattle.protocol.specs.MasterSnapshots.{changes_names}
use Rattle.master_names.proofs.Parts.{changes_with, from_start}
use Rattle.master_names.proofs.calls.creates.Goals as goal

pub returns : goal.returns
returns g c =
    on_ok_weaker c.changes_names.result
    (λ s. from_start
    (λ m d. changes_names d c.args.client.0 c.args.number (call.Create c.args.path.now c.args.shape)
    (entries.Create (client_id c.args.client.0) c.args.number (file_id m.logged.next_file) (told_shape m.config c.args.shape) c.args.path.now))
    (g.L.OperationLog.disk c.args.log.now) c.args.plan.now c.changes_names.new.plan
    (changes_with (g.L.OperationLog.disk c.args.log.now) c.args.client.0 c.args.number (call.Create c.args.path.now c.args.shape) c.has_room.new.self c.args.plan.now c.changes_names.new.plan
    (entries.Create c.args.client c.args.number c.next_file-file.result (Some c.or.result) c.in_ok-copy.field-0)
    (entries.Create (client_id c.args.client.0) c.args.number (file_id c.args.plan.now.logged.next_file) (told_shape c.args.plan.now.config c.args.shape) c.args.path.now) (search rules) (search rules) refl s))
    c.changes_names.ensures
