use Rattle.std.proofs.Common.{◌≡◌, ◌-◌, ◌≤◌}
use Rattle.std.specs.Prelude.{max}
use Rattle.master_cell.specs.Files.{numbers_from}
use Rattle.master_cell.proofs.changed_files.numbers.Given as goal

abbrev pub invariant-loop-number : goal.invariant-loop-number
invariant-loop-number l = (l.numbers.items ≡ numbers_from l.first (l.number - l.first)) × (l.first ≤ l.number) × (l.number ≤ max l.first l.end)
