use Rattle.cell_simulator.proofs.StepLemmas.{on_ok, one_step}
use Rattle.cell_simulator.proofs.simulator.Simulator.take.Goals as goal

pub returns-clause-goes : goal.returns-clause-goes
returns-clause-goes g c = on_ok _ _ _ c.print_answer.ensures.printed (one_step _ _ _ _ _ _ _ _ _ c.requires.node c.requires.moment c.step-answer.ensures)
