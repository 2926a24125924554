use Rattle.std.proofs.Common.{◌≡◌, ◌++◌, map}
use Rattle.std.specs.Prelude.{not, filter}
use Rattle.protocol.specs.MasterStep.{is_in_time}
use Rattle.master_plan.specs.Plans.{known}
use Rattle.master_reports.specs.Late.{late_attempts}
use Rattle.master_reports.proofs.attempts.late_attempts.Given as goal

-- what is left completes the list
abbrev pub invariant-loop-handle : goal.invariant-loop-handle
invariant-loop-handle g l = l.late.items ++ map (λ e. e.0) (filter (λ e. not (is_in_time (known l.plan) e)) l.handle-iterator) ≡ late_attempts (known l.plan)
