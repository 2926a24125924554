use Rattle.std.proofs.Common.{ℕ, [], subst, ◌∙◌}
use Rattle.std.specs.Prelude.{Option}
use Rattle.protocol_journal.specs.Journal.{sent_after}
use Rattle.cell_journal.specs.Entries.{cause_of}
use Rattle.cell_journal.specs.Writers.{IsRead}
use Rattle.cell_seats.proofs.Moving.{led_still, later_trans, acts_all, err_all, for_node, no_call_on}
use Rattle.cell_seats.proofs.slot.take_in.Goals as goal

pub returns-then-not-pass-clause-led : goal.returns-then-not-pass-clause-led
returns-then-not-pass-clause-led g c = led_still c.args.node.now g.N.Stepper.stands _ _ _ _ c.pass.ensures.node c.pass.ensures.later c.requires.led

pub returns-in_err-message-clause-led : goal.returns-in_err-message-clause-led
returns-in_err-message-clause-led g c = led_still c.args.node.now g.N.Stepper.stands _ _ _ _ (c.in_err-message.ensures.node ∙ c.pass.ensures.node) (later_trans _ _ _ c.pass.ensures.later c.in_err-message.ensures.later) c.requires.led

pub steps-requires-clause-led : goal.steps-requires-clause-led
steps-requires-clause-led g c = led_still c.args.node.now g.N.Stepper.stands _ _ _ _ (c.in_ok-message.ensures.node ∙ c.pass.ensures.node) (later_trans _ _ _ c.pass.ensures.later c.in_ok-message.ensures.later) c.requires.led

pub returns-clause-ok : goal.returns-clause-ok
returns-clause-ok g c =
    acts_all c.steps.result _ _ _ _ _ c.args.input _ c.in_ok-message.message _ (c.in_ok-message.ensures.node ∙ c.pass.ensures.node) (later_trans _ _ _ c.pass.ensures.later c.in_ok-message.ensures.later) c.cause_on-cause.ensures c.number_of.ensures
    c.in_ok-message.ensures.ok.1 c.steps.ensures.ok

pub returns-clause-err : goal.returns-clause-err
returns-clause-err g c = err_all c.steps.result _ _ _ (later_trans _ _ _ c.pass.ensures.later c.in_ok-message.ensures.later) c.steps.ensures.err

pub steps-requires-clause-reads : goal.steps-requires-clause-reads
steps-requires-clause-reads g c =
    let d = c.begin.new.self in
    for_node c.args.input c.in_ok-message.message (cause_of c.cause_on-cause.result) (sent_after [] d.writer.me.0.seen) d.node c.cause_on-cause.ensures
    (subst (λ (k : Option ℕ). IsRead (sent_after [] d.writer.me.0.seen) d.node k c.in_ok-message.message) c.number_of.ensures c.in_ok-message.ensures.ok.1)

pub steps-requires-clause-copy : goal.steps-requires-clause-copy
steps-requires-clause-copy g c = no_call_on c.args.input c.in_ok-message.message (cause_of c.cause_on-cause.result) c.cause_on-cause.ensures
