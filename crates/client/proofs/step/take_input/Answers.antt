use Rattle.std.proofs.Common.{◌≡◌, IfOk, sym, subst, ◌∙◌}
use Rattle.protocol.specs.Client.{ClientDoing}
use Rattle.client.specs.Doing.{doing}
use Rattle.client.proofs.Steps.{does_deliver, does_tick}
use Rattle.client.proofs.step.take_input.Goals as goal

pub returns-in-Deliver : goal.returns-in-Deliver
returns-in-Deliver c =
    subst (λ (d : ClientDoing). IfOk c.takes_at.result (λ e. d ≡ doing c.takes_at.new.client e))
    (sym (does_deliver c.args.client.now c.take_current.new.self c.args.input.now c.in-Deliver.message c.in-Some.current c.take_current.ensures.rest (sym c.take_current.ensures.value ∙ c.in-Some.is) c.in-Deliver.is))
    c.takes_at.ensures

pub returns-in-Tick : goal.returns-in-Tick
returns-in-Tick c =
    subst (λ (d : ClientDoing). IfOk c.ticks_at.result (λ e. d ≡ doing c.ticks_at.new.client e))
    (sym (does_tick c.args.client.now c.take_current.new.self c.args.input.now c.in-Some.current c.take_current.ensures.rest (sym c.take_current.ensures.value ∙ c.in-Some.is) c.in-Tick.is))
    c.ticks_at.ensures
