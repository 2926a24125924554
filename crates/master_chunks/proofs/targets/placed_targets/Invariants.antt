use Rattle.std.proofs.Common.{◌≡◌, map, take}
use Rattle.protocol.specs.Master.{version_held}
use Rattle.master_plan.specs.Plans.{known}
use Rattle.master_chunks.proofs.targets.placed_targets.Given as goal

abbrev pub invariant-loop-server : goal.invariant-loop-server
invariant-loop-server g l = l.targets ≡ map (λ s. record { server = s; base = version_held (known l.plan) l.handle.0 s }) (take l.server-index l.server-items)
