use Rattle.std.proofs.Common.{◌≡◌, ℕ, take}
use Rattle.std.specs.FinMap as table
use Rattle.master_cell.proofs.Noting.{noted}
use Rattle.master_cell.proofs.changed_files.files_of_copies.Given as goal

abbrev pub invariant-loop-handle : goal.invariant-loop-handle
invariant-loop-handle g l = (q : ℕ) → table.get l.files q ≡ noted l.state (take l.handle-index l.handle-items) q
