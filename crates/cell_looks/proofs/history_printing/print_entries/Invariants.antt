use Rattle.std.proofs.Common.{take}
use Rattle.std.specs.Io.KnownBytes.{Appends}
use Rattle.cell_looks.specs.HistoryLines.{history_lines}
use Rattle.cell_looks.proofs.history_printing.print_entries.Given as goal

-- the lines of so many entries were printed
abbrev pub invariant-loop-place : goal.invariant-loop-place
invariant-loop-place g l = Appends (g.W.Write.contents l.fn.writer) (g.W.Write.contents l.writer) (history_lines (take l.place l.fn.history.entries))
