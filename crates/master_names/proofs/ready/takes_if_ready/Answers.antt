use Rattle.std.proofs.Common.{rules}
use Rattle.master_names.proofs.Snapshots.{leaves_it}
use Rattle.master_names.proofs.ready.takes_if_ready.Goals as goal

pub returns-then-not-branch : goal.returns-then-not-branch
returns-then-not-branch g c =
    leaves_it (g.L.OperationLog.disk c.args.log.now) c.args.plan.now c.has_waited.new.plan c.args.snapshot.now (search rules) c.has_waited.ensures.same
