use Rattle.std.proofs.Common.{◌≡◌, ◌+◌, length}
use Rattle.master_cell.specs.Shown.{shown_in}
use Rattle.master_cell.proofs.shown.ShownFiles.settle.Given as goal

abbrev pub invariant-loop : goal.invariant-loop
invariant-loop l = (shown_in l.self ≡ shown_in l.fn.self) × (length l.self.late.items + l.counter ≡ l.end)
