use Rattle.cell_simulator.specs.Steps.{is_delivery}
use Rattle.cell_simulator.proofs.StepLemmas.{goes_on}
use Rattle.cell_simulator.proofs.simulator.Simulator.deliver.Goals as goal

pub returns-clause-goes : goal.returns-clause-goes
returns-clause-goes g c = goes_on _ _ _ _ is_delivery _ _ _ c.in_ok-see_to_all.ensures.goes (c.drop_messages.ensures.goes _)
