use Rattle.std.proofs.Common.{◌∙◌}
use Rattle.cell_simulator.specs.Steps.{is_delivery}
use Rattle.cell_simulator.proofs.StepLemmas.{on_ok, goes_on}
use Rattle.cell_simulator.proofs.simulator.Simulator.free.Goals as goal

pub loop-number-preserved : goal.loop-number-preserved
loop-number-preserved g c = record {
  clock = c.in_ok-deliver_message.ensures.clock ∙ c.loop-number.invariant.clock;
  goes = goes_on _ _ _ _ is_delivery _ _ _ c.loop-number.invariant.goes c.in_ok-deliver_message.ensures.goes;
}

pub returns-clause-goes : goal.returns-clause-goes
returns-clause-goes g c = on_ok _ _ _ c.deliver.ensures.goes (goes_on _ _ _ _ is_delivery _ _ _ c.loop-number.invariant.goes)
