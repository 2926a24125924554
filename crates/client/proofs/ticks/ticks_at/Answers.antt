use Rattle.std.proofs.Common.{◌≡◌, IfOk, ap, sym, subst}
use Rattle.client_state.specs.declared.call.Stage.{Stage}
use Rattle.protocol.specs.Client.{ClientDoing}
use Rattle.protocol.specs.ClientStep.{ticks_at}
use Rattle.client.specs.Doing.{doing}
use Rattle.client.specs.Takes.{holding}
use Rattle.client.proofs.ticks.ticks_at.Goals as goal

pub returns-in-SentData : goal.returns-in-SentData
returns-in-SentData c =
    subst (λ (d : ClientDoing). IfOk c.ticks_told.result (λ e. d ≡ doing c.ticks_told.new.client e))
    (sym (ap (λ (stage : Stage). ticks_at (holding c.args.client.now c.args.current) c.args.current stage) c.in-SentData.is)) c.ticks_told.ensures

pub returns-in-SentMutate : goal.returns-in-SentMutate
returns-in-SentMutate c =
    subst (λ (d : ClientDoing). IfOk c.ticks_told-in-SentMutate.result (λ e. d ≡ doing c.ticks_told-in-SentMutate.new.client e))
    (sym (ap (λ (stage : Stage). ticks_at (holding c.args.client.now c.args.current) c.args.current stage) c.in-SentMutate.is)) c.ticks_told-in-SentMutate.ensures

pub returns-in-SentRead : goal.returns-in-SentRead
returns-in-SentRead c =
    subst (λ (d : ClientDoing). IfOk c.ticks_told-in-SentRead.result (λ e. d ≡ doing c.ticks_told-in-SentRead.new.client e))
    (sym (ap (λ (stage : Stage). ticks_at (holding c.args.client.now c.args.current) c.args.current stage) c.in-SentRead.is)) c.ticks_told-in-SentRead.ensures
