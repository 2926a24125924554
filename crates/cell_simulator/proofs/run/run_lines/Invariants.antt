use Rattle.cell_simulator.specs.Scripts.{RunsLines}
use Rattle.cell_simulator.specs.Shown.{state_of}
use Rattle.cell_simulator.proofs.run.run_lines.Given as goal

-- the lines that were read, and what was printed of them
abbrev pub invariant-loop-number : goal.invariant-loop-number
invariant-loop-number g l =
    RunsLines g.C.SimulatedCell.meaning (state_of l.fn.simulator) (state_of l.simulator) (g.W.Write.contents l.fn.writer) (g.W.Write.contents l.writer) (g.R.Read.remaining l.fn.reader) (g.R.Read.remaining l.reader) l.number
