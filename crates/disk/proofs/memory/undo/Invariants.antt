use Rattle.std.proofs.Common.{◌≡◌, ◌-◌, drop}
use Rattle.disk.specs.Pages.{Keeps, bytes_of}
use Rattle.disk.specs.Writes.{bytes_before}
use Rattle.disk.proofs.memory.undo.Given as goal

abbrev pub invariant-loop-k : goal.invariant-loop-k
invariant-loop-k g l =
    (bytes_of l.bytes ≡ bytes_before (drop (l.count - l.k) l.writes) (bytes_of l.fn.bytes))
    × Keeps l.fn.bytes l.bytes
