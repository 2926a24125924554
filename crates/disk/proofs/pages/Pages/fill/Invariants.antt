use Rattle.std.proofs.Common.{◌≡◌, replicate}
use Rattle.disk.specs.Bytes.{put_at}
use Rattle.disk.specs.Pages.{Keeps, bytes_of}
use Rattle.disk.proofs.pages.Pages.fill.Given as goal

abbrev pub invariant-loop-done : goal.invariant-loop-done
invariant-loop-done g l = (bytes_of l.self ≡ put_at (bytes_of l.fn.self) l.at (replicate l.done l.byte)) × Keeps l.fn.self l.self
