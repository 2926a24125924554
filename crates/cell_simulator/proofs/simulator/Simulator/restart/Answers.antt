use Rattle.cell_simulator.specs.Steps.{is_delivery}
use Rattle.cell_simulator.proofs.StepLemmas.{on_ok, goes_first}
use Rattle.cell_simulator.proofs.simulator.Simulator.restart.Goals as goal

pub returns-clause-goes : goal.returns-clause-goes
returns-clause-goes g c = on_ok _ _ _ c.deliver.ensures.goes (goes_first _ _ _ _ _ is_delivery _ _ _ c.in_ok-take.ensures.goes)
