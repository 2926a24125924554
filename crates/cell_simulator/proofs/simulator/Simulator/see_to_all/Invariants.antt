use Rattle.std.proofs.Common.{◌≡◌}
use Rattle.cell_simulator.specs.Steps.{Goes, Only, is_delivery}
use Rattle.cell_simulator.specs.Shown.{state_of}
use Rattle.cell_simulator.proofs.simulator.Simulator.see_to_all.Given as goal

-- the steps so far, and what was printed of them
abbrev pub invariant-loop : goal.invariant-loop
invariant-loop g l = record {
  clock : l.self.clock ≡ l.fn.self.clock;
  goes : Goes g.C.SimulatedCell.meaning (state_of l.fn.self) (state_of l.self) (Only is_delivery) (g.W.Write.contents l.fn.writer) (g.W.Write.contents l.writer);
}
