use Rattle.std.proofs.Common.{subst}
use Rattle.std.specs.Prelude.{OnOk}
use Rattle.cell_world.specs.Held.{HeldCell}
use Rattle.cell_world.specs.Rebasing.{Rebases}
use Rattle.cell_core.proofs.Explained.{rebase_of_world}
use Rattle.cell_core.proofs.Reached.{stands_rebased}
use Rattle.cell_core.proofs.world.World.rebase_in_place.Goals as goal

pub returns-clause-ok : goal.returns-clause-ok
returns-clause-ok g c = subst (λ (h : HeldCell). OnOk c.rebase.result (Rebases h c.args.now.0 c.rebase.new.self)) c.self.view_is c.rebase.ensures.ok

pub returns-clause-explained : goal.returns-clause-explained
returns-clause-explained g c = rebase_of_world c.self.inside.cell _ c.rebase.new.self c.args.now.0 c.rebase.result c.self.view_is c.rebase.ensures.ok

pub invariant_of-self : goal.invariant_of-self
invariant_of-self g c = stands_rebased c.self.inside.cell c.rebase.new.self c.args.now.0 c.rebase.result c.self.invariant c.rebase.ensures.ok c.rebase.ensures.err
