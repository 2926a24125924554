use Rattle.std.proofs.Common.{◌∙◌}
use Rattle.cell_simulator.specs.Steps.{is_of_round}
use Rattle.cell_simulator.proofs.StepLemmas.{goes_on}
use Rattle.cell_simulator.proofs.simulator.Simulator.tick_servers.Goals as goal

pub loop-number-preserved : goal.loop-number-preserved
loop-number-preserved g c = record {
  clock = c.in_ok-tick.ensures.clock ∙ c.loop-number.invariant.clock;
  goes = goes_on _ _ _ _ is_of_round _ _ _ c.loop-number.invariant.goes c.in_ok-tick.ensures.goes;
}
