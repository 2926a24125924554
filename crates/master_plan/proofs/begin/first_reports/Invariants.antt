use Rattle.std.proofs.Common.{◌≡◌}
use Rattle.protocol.specs.MasterStep.{first_reports}
use Rattle.master_plan.proofs.begin.first_reports.Given as goal

-- the servers so far reported
abbrev pub invariant-loop-index : goal.invariant-loop-index
invariant-loop-index l = l.reported ≡ first_reports l.index l.now.0
