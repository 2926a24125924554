use Rattle.cell_core.proofs.Explained.{step_of_world}
use Rattle.cell_core.proofs.Reached.{stands_step}
use Rattle.cell_core.proofs.world.World.step.Goals as goal

pub returns-clause-explained : goal.returns-clause-explained
returns-clause-explained g c = step_of_world c.self.inside.cell _ c.step.new.self c.args.event c.step.result c.self.view_is c.step.ensures

pub invariant_of-self : goal.invariant_of-self
invariant_of-self g c = stands_step c.self.inside.cell c.step.new.self c.args.event c.step.result c.self.invariant c.step.ensures
