use Rattle.std.proofs.Common.{◌≤◌, drop, length}
use Rattle.std.specs.Prelude.{◌↔◌}
use Rattle.relaxed_file.specs.Order.{IsSelection}
use Rattle.machine_programs.proofs.selection.is_selection.Given as goal

-- what is left to choose from the entries to come decides
abbrev pub invariant-loop-entry : goal.invariant-loop-entry
invariant-loop-entry l = record {
  within : l.taken ≤ length l.chosen;
  decides : IsSelection l.last l.order l.chosen ↔ IsSelection l.last (drop l.entry-index l.order) (drop l.taken l.chosen);
}
