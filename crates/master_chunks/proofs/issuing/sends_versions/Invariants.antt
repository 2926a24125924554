use Rattle.std.proofs.Common.{◌≡◌, drop}
use Rattle.protocol.specs.Logged.{LogDisk}
use Rattle.protocol.specs.MasterVersions.{sends_versions}
use Rattle.master_plan.specs.Plans.{doing}
use Rattle.master_chunks.proofs.issuing.sends_versions.Given as goal

abbrev pub invariant-loop-target : goal.invariant-loop-target
invariant-loop-target g l = (disk : LogDisk) → sends_versions (doing disk l.plan) l.handle.0 l.version.0 (drop l.target-index l.targets) ≡ sends_versions (doing disk l.fn.plan) l.handle.0 l.version.0 l.targets
