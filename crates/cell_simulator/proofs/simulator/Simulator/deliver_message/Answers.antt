use Rattle.cell_simulator.specs.Steps.{is_delivery}
use Rattle.cell_simulator.proofs.StepLemmas.{on_ok, goes_on}
use Rattle.cell_simulator.proofs.simulator.Simulator.deliver_message.Goals as goal

pub returns-clause-goes : goal.returns-clause-goes
returns-clause-goes g c = on_ok _ _ _ c.deliver_once.ensures.goes (goes_on _ _ _ _ is_delivery _ _ _ c.in_ok-deliver_double.ensures.goes)
