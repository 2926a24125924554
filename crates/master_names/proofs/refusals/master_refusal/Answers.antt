use Rattle.std.proofs.Common.{ap}
use Rattle.gfs_types.specs.declared.call.Call.TheVariants as call
use Rattle.protocol.specs.Logged.{Logged}
use Rattle.master_plan.specs.Plans.{known}
use Rattle.master_names.proofs.Refused.{refused_so, refused_with}
use Rattle.master_names.proofs.refusals.master_refusal.Goals as goal

pub returns-in-Mkdir : goal.returns-in-Mkdir
returns-in-Mkdir g c =
    refused_so c.mkdir_refusal.result (known c.args.plan.now) c.args.call.now (call.Mkdir c.in-Mkdir.path) c.in_ok-is_busy.is_busy c.state-state.result.now.names
    c.mkdir_refusal.ensures (ap (λ (l : Logged). l.names) c.state-state.ensures) c.in-Mkdir.is c.in_ok-is_busy.ensures

pub returns-in-Rmdir : goal.returns-in-Rmdir
returns-in-Rmdir g c =
    refused_so c.rmdir_refusal.result (known c.args.plan.now) c.args.call.now (call.Rmdir c.in-Rmdir.path) c.in_ok-is_busy.is_busy c.state-state.result.now.names
    c.rmdir_refusal.ensures (ap (λ (l : Logged). l.names) c.state-state.ensures) c.in-Rmdir.is c.in_ok-is_busy.ensures

pub returns-in-Delete : goal.returns-in-Delete
returns-in-Delete g c =
    refused_so c.delete_refusal.result (known c.args.plan.now) c.args.call.now (call.Delete c.in-Delete.path) c.in_ok-is_busy.is_busy c.state-state.result.now.names
    c.delete_refusal.ensures (ap (λ (l : Logged). l.names) c.state-state.ensures) c.in-Delete.is c.in_ok-is_busy.ensures

pub returns-in-Rename : goal.returns-in-Rename
returns-in-Rename g c =
    refused_so c.rename_refusal.result (known c.args.plan.now) c.args.call.now (call.Rename c.in-Rename.from c.in-Rename.to) c.in_ok-is_busy.is_busy c.state-state.result.now.names
    c.rename_refusal.ensures (ap (λ (l : Logged). l.names) c.state-state.ensures) c.in-Rename.is c.in_ok-is_busy.ensures

pub returns-in-Snapshot : goal.returns-in-Snapshot
returns-in-Snapshot g c =
    refused_so c.snapshot_refusal.result (known c.args.plan.now) c.args.call.now (call.Snapshot c.in-Snapshot.from c.in-Snapshot.to) c.in_ok-is_busy.is_busy c.state-state.result.now.names
    c.snapshot_refusal.ensures (ap (λ (l : Logged). l.names) c.state-state.ensures) c.in-Snapshot.is c.in_ok-is_busy.ensures

pub returns-in-Open : goal.returns-in-Open
returns-in-Open g c =
    refused_so c.open_refusal.result (known c.args.plan.now) c.args.call.now (call.Open c.in-Open.path) c.in_ok-is_busy.is_busy c.state-state.result.now.names
    c.open_refusal.ensures (ap (λ (l : Logged). l.names) c.state-state.ensures) c.in-Open.is c.in_ok-is_busy.ensures

pub returns-in-List : goal.returns-in-List
returns-in-List g c =
    refused_so c.list_refusal.result (known c.args.plan.now) c.args.call.now (call.List c.in-List.path) c.in_ok-is_busy.is_busy c.state-state.result.now.names
    c.list_refusal.ensures (ap (λ (l : Logged). l.names) c.state-state.ensures) c.in-List.is c.in_ok-is_busy.ensures

pub returns-in-Create : goal.returns-in-Create
returns-in-Create g c =
    refused_with c.create_refusal.result (known c.args.plan.now) c.args.call.now (call.Create c.in-Create.path c.in-Create.shape) c.in_ok-is_busy.is_busy c.state-state.result.now.names
    c.config.result.now c.create_refusal.ensures c.config.ensures.config (ap (λ (l : Logged). l.names) c.state-state.ensures) c.in-Create.is c.in_ok-is_busy.ensures
