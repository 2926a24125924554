use Rattle.std.proofs.Common.{◌≡◌, drop, max}
use Rattle.relaxed_file.specs.Order.{order_length}
use Rattle.machine_programs.proofs.regions.order_length.Given as goal

-- what is left gives the greatest end of all
abbrev pub invariant-loop-entry : goal.invariant-loop-entry
invariant-loop-entry l = max l.greatest (order_length (drop l.entry-index l.entries)) ≡ order_length l.entries
