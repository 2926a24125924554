use Rattle.std.proofs.Common.{◌≡◌, None, refl, subst}
use Rattle.std.proofs.lemmas.Result.{on_ok_weaker}
use Rattle.gfs_types.specs.declared.call.Call.{Call}
use Rattle.gfs_types.specs.declared.call.Call.TheVariants as call
use Rattle.protocol.specs.MasterNames.{master_refusal}
use Rattle.master_plan.specs.Plans.{known}
use Rattle.master_names.proofs.Snapshots.{not_busy, performs_snapshot}
use Rattle.master_names.proofs.names.performs.Goals as goal

pub returns-in-Snapshot : goal.returns-in-Snapshot
returns-in-Snapshot g c =
    on_ok_weaker c.waits.result
    (λ s. performs_snapshot (g.L.OperationLog.disk c.args.log.now) c.args.plan.now c.waits.new.plan _ c.args.call.now _ _ c.in-Snapshot.is refl refl s)
    c.waits.ensures

pub waits-requires : goal.waits-requires
waits-requires g c =
    let m = known c.args.plan.now in
    not_busy m (call.Snapshot c.in-Snapshot.from c.in-Snapshot.to) (subst (λ (x : Call). master_refusal m x ≡ None) c.in-Snapshot.is c.requires)
