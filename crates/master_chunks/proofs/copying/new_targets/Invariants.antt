use Rattle.std.proofs.Common.{◌≡◌, map, take}
use Rattle.master_chunks.specs.Copying.{new_target}
use Rattle.master_chunks.proofs.copying.new_targets.Given as goal

abbrev pub invariant-loop-server : goal.invariant-loop-server
invariant-loop-server g l = l.targets ≡ map new_target (take l.server-index l.server-items)
