use Rattle.cell_seats.proofs.Moving.{led_still, taken_all, err_all}
use Rattle.cell_seats.proofs.slot.call_in.Goals as goal

pub returns-in_err-begin-clause-led : goal.returns-in_err-begin-clause-led
returns-in_err-begin-clause-led g c = led_still c.args.node.now g.N.Stepper.stands _ _ _ _ c.in_err-begin.ensures.node c.in_err-begin.ensures.later c.requires.led

pub steps-requires-clause-led : goal.steps-requires-clause-led
steps-requires-clause-led g c = led_still c.args.node.now g.N.Stepper.stands _ _ _ _ c.in_ok-begin.ensures.node c.in_ok-begin.ensures.later c.requires.led

pub returns-clause-ok : goal.returns-clause-ok
returns-clause-ok g c = taken_all c.steps.result _ _ _ _ _ _ c.in_ok-begin.ensures.node c.in_ok-begin.ensures.later c.steps.ensures.ok

pub returns-clause-err : goal.returns-clause-err
returns-clause-err g c = err_all c.steps.result _ _ _ c.in_ok-begin.ensures.later c.steps.ensures.err
