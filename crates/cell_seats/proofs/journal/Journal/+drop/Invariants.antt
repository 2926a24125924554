use Rattle.std.proofs.Common.{◌≤◌, length}
use Rattle.cell_seats.specs.Journals.{joined}
use Rattle.cell_seats.proofs.journal.Journal.+drop.Given as goal

-- no journals are left but those that were there
abbrev pub invariant-loop : goal.invariant-loop
invariant-loop l = length (joined l.base.items) ≤ length l.fn.self.earlier
