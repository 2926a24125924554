use Rattle.cell_core.proofs.Explained.{runs_of_world}
use Rattle.cell_core.proofs.Reached.{stands_ran}
use Rattle.cell_core.proofs.world.World.run.Goals as goal

pub returns-clause-explained : goal.returns-clause-explained
returns-clause-explained g c = runs_of_world c.self.inside.cell _ c.run.new.self c.args.events.now (λ v. v.items) c.run.result c.self.view_is c.run.ensures.ok

pub invariant_of-self : goal.invariant_of-self
invariant_of-self g c = stands_ran c.self.inside.cell c.run.new.self c.args.events.now (λ v. v.items) c.run.result c.self.invariant c.run.ensures.ok c.run.ensures.err
