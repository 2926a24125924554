use Rattle.shell.proofs.world.SimulatedWorldSimulatedCell.step.Goals as goal

pub returns : goal.returns
returns g c = c.step.ensures.steps
