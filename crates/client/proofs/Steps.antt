-- How a step ends.
use Rattle.std.proofs.Common.{◌≡◌, ℕ, true, false, [], Option, Some, None, sym, ap, ◌∙◌, if◌then◌else◌}
use Rattle.messages.specs.declared.event.NodeInput.{NodeInput}
use Rattle.messages.specs.declared.event.NodeInput.TheVariants as input
use Rattle.messages.specs.declared.message.Message.{Message}
use Rattle.client_state.specs.declared.call.CurrentCall.{CurrentCall}
use Rattle.protocol.specs.Choice.{Choice, Ending, Goes, Lost}
use Rattle.protocol.specs.Seen.{Taken, down_output, no_output, no_step}
use Rattle.protocol.specs.Client.{ClientState, ClientDoing, client_begins, stopped_client}
use Rattle.protocol.specs.ClientStep.{takes_at, ticks_at, client_does, client_goes, client_ends, client_step, may_step}
use Rattle.protocol.specs.Conforms.{ClientSteps}
use Rattle.client_calls.specs.declared.effects.ClientEffects.{ClientEffects}
use Rattle.client.specs.Doing.{doing}
use Rattle.client.specs.Takes.{holding}
use Rattle.client.proofs.Outcomes.{out_of, gave}

held_again : (s rest : ClientState) (c : CurrentCall) → rest ≡ record s { current = None } → s.current ≡ Some c → client_begins s ≡ holding rest c
held_again s rest c is at = ap (λ (o : Option CurrentCall). client_begins (record s { current = o })) at ∙ sym (ap (λ (r : ClientState). holding r c) is)

pub does_deliver : (s rest : ClientState) (i : NodeInput) (m : Message) (c : CurrentCall) → rest ≡ record s { current = None } → s.current ≡ Some c → i ≡ input.Deliver m
    → client_does (client_begins s) i s.current ≡ takes_at (holding rest c) c m c.stage
does_deliver s rest i m c is at taken =
    ap (λ (j : NodeInput). client_does (client_begins s) j s.current) taken
    ∙ ap (client_does (client_begins s) (input.Deliver m)) at
    ∙ ap (λ (d : ClientDoing). takes_at d c m c.stage) (held_again s rest c is at)

pub does_tick : (s rest : ClientState) (i : NodeInput) (c : CurrentCall) → rest ≡ record s { current = None } → s.current ≡ Some c → i ≡ input.Tick
    → client_does (client_begins s) i s.current ≡ ticks_at (holding rest c) c c.stage
does_tick s rest i c is at taken =
    ap (λ (j : NodeInput). client_does (client_begins s) j s.current) taken
    ∙ ap (client_does (client_begins s) input.Tick) at
    ∙ ap (λ (d : ClientDoing). ticks_at d c c.stage) (held_again s rest c is at)

abbrev choice_of : Ending → Choice
choice_of ending = record { ending = ending; order = []; refused = []; decided = [] }

goes_so : (old : ClientState) (moment : ℕ) (i : NodeInput) (ending : Ending) → may_step old ≡ true
    → client_step old moment i (choice_of ending) ≡ client_ends old (client_goes old moment i) ending
goes_so old moment i ending may = ap (λ b. if b then client_ends old (client_goes old moment i) ending else no_step old) may

pub step_did : (old : ClientState) (moment : ℕ) (i : NodeInput) (e : ClientEffects) (new : ClientState)
    → may_step old ≡ true → client_goes old moment i ≡ doing new e → ClientSteps old moment i (out_of e) new
step_did old moment i e new may h =
    let so = goes_so old moment i Goes may in
    let given = gave old (client_goes old moment i) e new h in
    record {
      choice = choice_of Goes;
      gives = record {
        out_is = ap (λ (t : Taken ClientState). t.out) so ∙ given.out_is;
        state_is = ap (λ (t : Taken ClientState). t.state) so ∙ given.state_is;
      };
      seen_is = ap (λ (t : Taken ClientState). t.seen) so;
    }

pub step_lost : (old : ClientState) (moment : ℕ) (i : NodeInput) (new : ClientState)
    → may_step old ≡ true → new ≡ stopped_client old → ClientSteps old moment i down_output new
step_lost old moment i new may h =
    let so = goes_so old moment i Lost may in
    record {
      choice = choice_of Lost;
      gives = record {
        out_is = ap (λ (t : Taken ClientState). t.out) so;
        state_is = ap (λ (t : Taken ClientState). t.state) so ∙ sym h;
      };
      seen_is = ap (λ (t : Taken ClientState). t.seen) so;
    }

pub step_not_taken : (old : ClientState) (moment : ℕ) (i : NodeInput) → may_step old ≡ false → ClientSteps old moment i no_output old
step_not_taken old moment i may =
    let so = ap (λ b. if b then client_ends old (client_goes old moment i) Goes else no_step old) may in
    record {
      choice = choice_of Goes;
      gives = record {
        out_is = ap (λ (t : Taken ClientState). t.out) so;
        state_is = ap (λ (t : Taken ClientState). t.state) so;
      };
      seen_is = ap (λ (t : Taken ClientState). t.seen) so;
    }
