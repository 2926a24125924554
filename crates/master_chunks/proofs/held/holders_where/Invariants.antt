use Rattle.std.proofs.Common.{◌≡◌}
use Rattle.std.specs.List.{filter_map}
use Rattle.protocol.specs.Tables.{first_numbers}
use Rattle.protocol.specs.Master.{held_where, version_held}
use Rattle.master_plan.specs.Plans.{known}
use Rattle.master_chunks.specs.Tests.{passes}
use Rattle.master_chunks.proofs.held.holders_where.Given as goal

abbrev pub invariant-loop-index : goal.invariant-loop-index
invariant-loop-index g l = l.holders ≡ filter_map (λ s. held_where (passes l.test) s (version_held (known l.plan) l.handle.0 s)) (first_numbers l.index)
