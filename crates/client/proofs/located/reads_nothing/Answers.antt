use Rattle.std.proofs.Common.{◌≡◌, ℕ, List, [], false, None, IfOk, ◌∙◌, ap, sym, subst}
use Rattle.client_state.specs.declared.call.CurrentCall.{CurrentCall}
use Rattle.protocol.specs.Client.{ClientState, ClientDoing, client_begins}
use Rattle.protocol.specs.ClientTakes.{gets}
use Rattle.client.specs.Doing.{doing}
use Rattle.client.proofs.Held.{gets_held}
use Rattle.client.proofs.located.reads_nothing.Goals as goal

pub returns : goal.returns
returns c =
    let s : ClientState = c.args.client.now in
    let told : CurrentCall = record c.args.current { saw_no_holder = false } in
    subst (λ (d : ClientDoing). IfOk c.gets.result (λ e. d ≡ doing c.gets.new.client e))
    (ap (λ (xs : List ℕ). gets (client_begins s) told xs None) c.new-found.ensures ∙ sym (gets_held s c.args.current told [] None)) c.gets.ensures
