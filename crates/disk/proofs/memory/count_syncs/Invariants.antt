use Rattle.std.proofs.Common.{◌≡◌, ◌≤◌, ◌+◌, drop}
use Rattle.disk.specs.Writes.{syncs}
use Rattle.disk.proofs.memory.count_syncs.Given as goal

abbrev pub invariant-loop-write : goal.invariant-loop-write
invariant-loop-write g l = (l.count + syncs (drop l.write-index l.writes) ≡ syncs l.fn.writes) × (l.count ≤ l.write-index)
