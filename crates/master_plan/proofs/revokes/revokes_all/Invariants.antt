use Rattle.std.proofs.Common.{◌≡◌, drop}
use Rattle.protocol.specs.Logged.{LogDisk}
use Rattle.protocol.specs.MasterSnapshots.{revokes_all}
use Rattle.master_plan.specs.Plans.{doing}
use Rattle.master_plan.proofs.revokes.revokes_all.Given as goal

-- what is left completes the revocations
abbrev pub invariant-loop-handle : goal.invariant-loop-handle
invariant-loop-handle g l = (disk : LogDisk) → revokes_all (doing disk l.plan) (drop l.handle-index l.handles) ≡ revokes_all (doing disk l.fn.plan) l.handles
