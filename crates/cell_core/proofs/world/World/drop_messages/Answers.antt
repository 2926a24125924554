use Rattle.std.proofs.Common.{◌≡◌, [], subst}
use Rattle.cell_world.specs.Held.{HeldCell}
use Rattle.cell_core.specs.Standing.{DropsAll}
use Rattle.cell_core.proofs.Cuts.{drops_all}
use Rattle.cell_core.proofs.Reached.{stands_without}
use Rattle.cell_core.proofs.world.World.drop_messages.Goals as goal

pub returns-clause-held : goal.returns-clause-held
returns-clause-held g c = subst (λ (h : HeldCell). c.drop_messages.new.self ≡ record h { sent = [] }) c.self.view_is c.drop_messages.ensures

pub returns-clause-stands : goal.returns-clause-stands
returns-clause-stands g c = subst (λ (h : HeldCell). DropsAll h c.drop_messages.new.self) c.self.view_is (drops_all c.self.inside.cell c.drop_messages.new.self c.drop_messages.ensures)

pub invariant_of-self : goal.invariant_of-self
invariant_of-self g c = stands_without c.self.inside.cell c.drop_messages.new.self c.self.invariant c.drop_messages.ensures
