use Rattle.std.proofs.Common.{◌≡◌, drop, true}
use Rattle.disk.specs.Pages.{all_taken, bytes_of}
use Rattle.disk.specs.Writes.{all_fit, filled}
use Rattle.disk.proofs.memory.fill_ranges.Given as goal

abbrev pub invariant-loop-write : goal.invariant-loop-write
invariant-loop-write g l =
    (filled l.byte (drop l.write-index l.writes) (bytes_of l.bytes) ≡ filled l.fn.byte l.fn.writes (bytes_of l.fn.bytes))
    × (all_fit l.bytes.size (drop l.write-index l.writes) ≡ true)
    × (all_taken l.bytes.pages (drop l.write-index l.writes) ≡ true)
