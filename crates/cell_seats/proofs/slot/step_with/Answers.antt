use Rattle.std.proofs.Common.{sym, subst}
use Rattle.cell_journal.specs.Entries.{cause_of}
use Rattle.gfs_types.specs.declared.ids.Node.{Node}
use Rattle.cell_seats.specs.Slots.{IsLedTo}
use Rattle.cell_seats.proofs.Moving.{step_of, step_taken, led_on}
use Rattle.cell_seats.proofs.slot.step_with.Goals as goal

pub end-requires-clause-step : goal.end-requires-clause-step
end-requires-clause-step g c =
    let d = c.args.journal.now in
    let led = c.requires.led in
    step_of d.writer.me.0 d.writer.me.1 d.node (g.N.Stepper.stands c.args.node) (g.N.Stepper.stands c.step-given.new.self) c.args.now.0 (cause_of c.args.cause) c.step-given.result.out c.step-given.result.seen d.own d.goes_on led
    (c.requires.may led.state led.stands) (c.step-given.ensures.steps led.state led.stands) c.requires.moment c.requires.reads

pub returns-in-Some-clause-led : goal.returns-in-Some-clause-led
returns-in-Some-clause-led g c =
    let d = c.args.journal.now in
    let led = c.requires.led in
    subst (λ (k : Node). IsLedTo c.end.new.self.writer.me.0 k (g.N.Stepper.stands c.step-given.new.self)) (sym c.in-Some.ensures.node)
    (led_on d.writer.me.0 c.end.new.self.writer.me.0 d.node (g.N.Stepper.stands c.args.node) (g.N.Stepper.stands c.step-given.new.self) c.args.now.0 (cause_of c.args.cause) c.step-given.result.out c.step-given.result.seen led
    (c.requires.may led.state led.stands) (c.step-given.ensures.steps led.state led.stands) c.in-Some.ensures.some.0)

pub returns-in-Some-clause-some : goal.returns-in-Some-clause-some
returns-in-Some-clause-some g c =
    let d = c.args.journal.now in
    step_taken d.node d.writer.me.0 c.end.new.self.writer.me.0 c.args.now.0 (cause_of c.args.cause) c.step-given.result.out c.step-given.result.seen c.step-given.result.answer c.told_where-told.result c.in-Some.extended.beginning c.in-Some.extended.count
    c.in-Some.extended.are_clocks_kept c.in-Some.ensures.some c.in-Some.ensures.clocks c.step-given.ensures.answer c.told_where-told.ensures
