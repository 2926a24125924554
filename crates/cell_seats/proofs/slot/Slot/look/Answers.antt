use Rattle.cell_seats.proofs.Moving.{led_still}
use Rattle.cell_seats.proofs.slot.Slot.look.Goals as goal

pub invariant_of-self : goal.invariant_of-self
invariant_of-self g c = led_still c.self.inside.node g.N.Stepper.stands _ _ _ _ c.look.ensures.node c.look.ensures.later c.self.invariant
