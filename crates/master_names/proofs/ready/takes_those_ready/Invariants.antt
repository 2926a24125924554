use Rattle.std.proofs.Common.{◌≡◌, drop}
use Rattle.protocol.specs.MasterSnapshots.{takes_ready}
use Rattle.master_plan.specs.Plans.{PlanState}
use Rattle.master_names.specs.Doing.{IsPlanned}
use Rattle.master_names.proofs.ready.takes_those_ready.Given as goal

-- what does the rest does all
abbrev pub invariant-loop-snapshot : goal.invariant-loop-snapshot
invariant-loop-snapshot g l = (new : PlanState)
    → IsPlanned (λ d. takes_ready d (drop l.snapshot-index l.snapshots)) (g.L.OperationLog.disk l.log) l.plan new
    → IsPlanned (λ d. takes_ready d l.snapshots) (g.L.OperationLog.disk l.log) l.fn.plan new
