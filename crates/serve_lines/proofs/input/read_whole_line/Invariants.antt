use Rattle.serve_lines.proofs.WholeLines.{HasKept}
use Rattle.serve_lines.proofs.input.read_whole_line.Given as goal

-- what was read of the line, and what is kept of it
abbrev pub invariant-loop : goal.invariant-loop
invariant-loop g l = HasKept (g.R.Read.remaining l.fn.reader) (g.R.Read.remaining l.reader) l.line.items
