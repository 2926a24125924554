use Rattle.std.proofs.Common.{length, map}
use Rattle.std.specs.Prelude.{All, Contains}
use Rattle.cell_journal.specs.WholeHistories.{whole_of}
use Rattle.cell_seats.specs.Journals.{all_in}
use Rattle.cell_looks.specs.HistoryLines.{history_lines}
use Rattle.cell_looks.proofs.PrintedHistories.{IsPrintedUpTo}
use Rattle.cell_looks.proofs.history_printing.print_history.Given as goal

-- what is left completes what was printed
abbrev pub invariant-loop-earliest : goal.invariant-loop-earliest
invariant-loop-earliest g l = record {
  printed : IsPrintedUpTo (g.W.Write.contents l.fn.writer) (g.W.Write.contents l.writer) (map (λ j. j.now.now) l.left.items) (history_lines (whole_of l.fn.journal.now));
  are : All (λ j. Contains (all_in l.fn.journal) j.now.now) l.left.items;
}

abbrev pub decreases-loop-earliest : goal.decreases-loop-earliest
decreases-loop-earliest g l = length l.left.items
