use Rattle.std.proofs.Common.{arith}
use Rattle.cell_simulator.proofs.StepLemmas.{on_ok, goes_later}
use Rattle.cell_simulator.proofs.simulator.Simulator.wait.Goals as goal

pub returns-clause-goes : goal.returns-clause-goes
returns-clause-goes g c = on_ok _ _ _ c.tick_round.ensures.goes (goes_later _ _ _ _ _ _ _ _ (omega (arith, c.saturating_add.ensures)))
