-- How a call ends.
use Rattle.std.proofs.Common.{◌≡◌, ℕ, Bool, true, false, cond, List, [], ◌∷◌, Option, Some, None, refl, sym, ap, ◌∙◌, if◌then◌else◌}
use Rattle.std.specs.Option.{option_to_list}
use Rattle.gfs_types.specs.declared.call.Call.{Call}
use Rattle.gfs_types.specs.declared.answer.Answer.TheVariants as answer
use Rattle.gfs_types.specs.declared.refusal.Refusal.TheVariants.{NoMemory}
use Rattle.messages.specs.declared.event.StepOut.{StepOut}
use Rattle.protocol.specs.Choice.{Choice, Ending, Goes}
use Rattle.protocol.specs.Client.{ClientState, ClientDoing, client_begins, answers}
use Rattle.protocol.specs.ClientStep.{client_at, client_call_goes, client_ends}
use Rattle.protocol.specs.Conforms.{Gives, ClientCalls}
use Rattle.client_calls.specs.declared.effects.ClientEffects.{ClientEffects}
use Rattle.client.specs.Doing.{doing}

choice_of : Ending → List Bool → Choice
choice_of ending refused = record { ending = ending; order = []; refused = refused; decided = [] }

-- what a step gave that went through
abbrev pub out_of : ClientEffects → StepOut
out_of e = record { sent = option_to_list e.sent; answer = e.answer; down = false }

pub gave : (s : ClientState) (d : ClientDoing) (e : ClientEffects) (new : ClientState) → d ≡ doing new e → Gives (client_ends s d Goes) (out_of e) new
gave s d e new h = record {
  out_is = ap (λ (x : ClientDoing). (client_ends s x Goes).out) h;
  state_is = ap (λ (x : ClientDoing). (client_ends s x Goes).state) h;
}

pub call_did : (old : ClientState) (moment : ℕ) (c : Call) (e : ClientEffects) (new : ClientState) → client_call_goes old moment c ≡ doing new e → ClientCalls old moment c (out_of e) new
unfolding choice_of
call_did old moment c e new h = record { choice = choice_of Goes []; gives = gave old _ e new h; seen_is = refl }

pub call_without_memory : (old : ClientState) (moment : ℕ) (c : Call) (e : ClientEffects) (new : ClientState)
    → answers (client_begins (client_at old moment)) (answer.Refused NoMemory) ≡ doing new e → ClientCalls old moment c (out_of e) new
unfolding choice_of
call_without_memory old moment c e new h = record { choice = choice_of Goes (true ∷ []); gives = gave old _ e new h; seen_is = refl }
