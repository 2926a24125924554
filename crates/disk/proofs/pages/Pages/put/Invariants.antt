use Rattle.std.proofs.Common.{◌≡◌, ◌≤◌, ◌-◌, take}
use Rattle.disk.specs.Bytes.{put_at}
use Rattle.disk.specs.Pages.{Keeps, bytes_of}
use Rattle.disk.proofs.pages.Pages.put.Given as goal

abbrev pub invariant-loop-done : goal.invariant-loop-done
invariant-loop-done g l = (bytes_of l.self ≡ put_at (bytes_of l.fn.self) l.at (take l.done l.bytes)) × Keeps l.fn.self l.self × (l.done ≤ l.count)

abbrev pub decreases-loop-done : goal.decreases-loop-done
decreases-loop-done g l = l.count - l.done
