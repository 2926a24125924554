use Rattle.cell_simulator.specs.Steps.{is_delivery}
use Rattle.cell_simulator.proofs.StepLemmas.{goes_dropping, goes_nothing}
use Rattle.cell_simulator.proofs.simulator.Simulator.drop_messages.Goals as goal

pub returns-then-is_empty-clause-goes : goal.returns-then-is_empty-clause-goes
returns-then-is_empty-clause-goes g c = λ known. goes_dropping _ _ _ _ is_delivery c.drop_messages.ensures.drops known
