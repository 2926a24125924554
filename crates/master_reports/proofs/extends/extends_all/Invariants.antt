use Rattle.std.proofs.Common.{◌≡◌, drop}
use Rattle.protocol.specs.Logged.{LogDisk}
use Rattle.protocol.specs.MasterReports.{extends_all}
use Rattle.master_plan.specs.Plans.{doing}
use Rattle.master_reports.proofs.extends.extends_all.Given as goal

-- what is left comes to what is asked
abbrev pub invariant-loop-line : goal.invariant-loop-line
invariant-loop-line g l =
    (disk : LogDisk) → extends_all (doing disk l.plan) l.server.0 (drop l.line-index l.leases) ≡ extends_all (doing disk l.fn.plan) l.server.0 l.leases
