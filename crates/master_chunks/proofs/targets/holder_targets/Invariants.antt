use Rattle.std.proofs.Common.{◌≡◌, map, take}
use Rattle.protocol.specs.MasterVersions.{holder_target}
use Rattle.master_chunks.proofs.targets.holder_targets.Given as goal

abbrev pub invariant-loop-holder : goal.invariant-loop-holder
invariant-loop-holder l = l.targets ≡ map holder_target (take l.holder-index l.holders)
