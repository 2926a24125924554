use Rattle.std.proofs.Common.{◌≡◌}
use Rattle.master_plan.specs.Plans.{known}
use Rattle.master_reports.proofs.Held.{held_among}
use Rattle.master_reports.proofs.copies.is_held.Given as goal

abbrev pub invariant-loop-index : goal.invariant-loop-index
invariant-loop-index g l = l.found ≡ held_among (known l.plan) l.handle.0 l.version.0 l.index
