use Rattle.std.proofs.Common.{◌≡◌, ◌≤◌, ◌-◌, length, take}
use Rattle.disk.specs.Bytes.{range_at}
use Rattle.disk.specs.Pages.{bytes_of}
use Rattle.disk.proofs.pages.Pages.read.Given as goal

abbrev pub invariant-loop-done : goal.invariant-loop-done
invariant-loop-done g l = (take l.done l.out ≡ range_at (bytes_of l.self) l.at l.done) × (length l.out ≡ length l.fn.out) × (l.done ≤ l.count)

abbrev pub decreases-loop-done : goal.decreases-loop-done
decreases-loop-done g l = l.count - l.done
