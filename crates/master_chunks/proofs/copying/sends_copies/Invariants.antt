use Rattle.std.proofs.Common.{◌≡◌, drop}
use Rattle.protocol.specs.Logged.{LogDisk}
use Rattle.protocol.specs.MasterVersions.{sends_copies}
use Rattle.master_plan.specs.Plans.{doing}
use Rattle.master_chunks.proofs.copying.sends_copies.Given as goal

abbrev pub invariant-loop-target : goal.invariant-loop-target
invariant-loop-target g l = (disk : LogDisk) → sends_copies (doing disk l.plan) l.handle.0 l.copy.0 l.version.0 (drop l.target-index l.targets) ≡ sends_copies (doing disk l.fn.plan) l.handle.0 l.copy.0 l.version.0 l.targets
