use Rattle.std.proofs.Common.{◌≡◌, ◌++◌, drop}
use Rattle.std.specs.Prelude.{filter}
use Rattle.protocol.specs.MasterStep.{is_lost_copy}
use Rattle.master_plan.specs.Plans.{known}
use Rattle.master_reports.proofs.copies.lost_of.Given as goal

-- what is left completes the list
abbrev pub invariant-loop-handle : goal.invariant-loop-handle
invariant-loop-handle g l = l.lost.items ++ filter (is_lost_copy (known l.plan)) (drop l.handle-index l.handles) ≡ filter (is_lost_copy (known l.plan)) l.handles
