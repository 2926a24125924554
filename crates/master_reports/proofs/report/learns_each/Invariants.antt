use Rattle.std.proofs.Common.{◌≡◌, drop}
use Rattle.protocol.specs.MasterReports.{learns_all}
use Rattle.master_plan.specs.Plans.{doing}
use Rattle.master_reports.proofs.report.learns_each.Given as goal

-- what is left comes to what is asked
abbrev pub invariant-loop-line : goal.invariant-loop-line
invariant-loop-line g l =
    let disk = g.L.OperationLog.disk l.log in
    learns_all (doing disk l.plan) l.server.0 (drop l.line-index l.replicas) ≡ learns_all (doing disk l.fn.plan) l.server.0 l.replicas
