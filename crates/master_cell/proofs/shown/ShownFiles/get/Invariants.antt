use Rattle.std.proofs.Common.{◌≡◌, drop}
use Rattle.std.specs.FinMap as map
use Rattle.master_cell.specs.Copies.{with_lists}
use Rattle.master_cell.specs.Shown.{shown_in}
use Rattle.master_cell.proofs.shown.ShownFiles.get.Given as goal

abbrev pub invariant-loop-copy : goal.invariant-loop-copy
invariant-loop-copy l = map.get (with_lists l.self.files (drop l.copy-index l.self.late.items)) l.file.0 ≡ map.get (shown_in l.self) l.file.0
