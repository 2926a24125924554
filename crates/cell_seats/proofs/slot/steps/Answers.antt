use Rattle.cell_seats.proofs.Moving.{led_still}
use Rattle.cell_seats.proofs.slot.steps.Goals as goal

pub returns-in-Err-clause-led : goal.returns-in-Err-clause-led
returns-in-Err-clause-led g c = led_still c.args.node.now g.N.Stepper.stands _ _ _ _ c.give_up.ensures.node c.give_up.ensures.later c.requires.led
