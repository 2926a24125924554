use Rattle.std.proofs.Common.{◌≡◌}
use Rattle.cell_simulator.specs.Steps.{Goes, Only, after_rounds, is_of_round}
use Rattle.cell_simulator.specs.Shown.{state_of}
use Rattle.cell_simulator.proofs.simulator.Simulator.finish.Given as goal

-- the rounds so far, and what was printed of them
abbrev pub invariant-loop : goal.invariant-loop
invariant-loop g l = record {
  rounds : l.self.clock.0 ≡ after_rounds l.fn.self.clock.0 l.counter;
  goes : Goes g.C.SimulatedCell.meaning (state_of l.fn.self) (state_of l.self) (Only is_of_round) (g.W.Write.contents l.fn.writer) (g.W.Write.contents l.writer);
}
