-- A client's step for its open call on a file keeps a whole machine beside the world, where calls are known and refusals for length are so.
use Rattle.std.proofs.Common.{◌≡◌, ℕ, suc, List, [], ◌∷◌, ◌++◌, length, Some, ap, subst, ◌∙◌}
use Rattle.std.proofs.lemmas.List.{append-nil}
use Rattle.std.proofs.lemmas.Bool.{and_parts}
use Rattle.gfs_types.specs.declared.config.Config.{Config}
use Rattle.messages.specs.declared.event.Event.{Event}
use Rattle.messages.specs.declared.event.NodeInput.{NodeInput}
use Rattle.messages.specs.declared.message.Body.{Body}
use Rattle.messages.specs.declared.message.Body.TheVariants as body
use Rattle.messages.specs.declared.message.Message.{Message}
use Rattle.relaxed_file.specs.Machine.{Machine, OpenCall}
use Rattle.client_state.specs.declared.call.CurrentCall.{CurrentCall}
use Rattle.client_state.specs.declared.call.Stage.{Stage}
use Rattle.client_state.specs.declared.call.Stage.TheVariants.{AskedWhere, SentMutate, SentRead}
use Rattle.protocol.specs.Choice.{Choice}
use Rattle.protocol.specs.Tables.{element_at}
use Rattle.protocol.specs.Client.{ClientState}
use Rattle.protocol.specs.ClientStep.{client_step}
use Rattle.protocol.specs.World.{WorldState, Happened, nothing_happens, stamped, after_client, happens, IsReached}
use Rattle.laws_base.proofs.Steps.{none_some}
use Rattle.laws_base.proofs.Entries.{AllOf}
use Rattle.laws_base.proofs.MembersRecorded.{all_at}
use Rattle.laws_base.proofs.MessagesSent.{numbered_sent}
use Rattle.laws_base.proofs.RequestsOnce.{numbered_reached}
use Rattle.laws_machine.specs.FileClients.{IsSaidAt}
use Rattle.laws_machine.specs.WholeWorlds.{AreWordsSo}
use Rattle.laws_machine.specs.WholeClients.{GivesClient}
use Rattle.laws_machine.proofs.WholeClients.{event_case, file_steps_keep_worlds_whole}
use Rattle.headline.proofs.RequestsNumbered.{events_keep_requests_numbered}
use Rattle.headline.specs.ClientWords.{IsNoTelling}
use Rattle.headline.specs.ClientsEvents.{ClientFileStepsKeepWorldsWhole}
use Rattle.headline.proofs.ClientWords.{step_asks}
use Rattle.headline.proofs.FileWords.{waits_so}

-- what tells no client is so for each

untold : (m : Machine) (client own : ℕ) (o : OpenCall) (x : CurrentCall) (st : Stage) (b : Body) → IsNoTelling b → IsSaidAt m client own o x st b
untold m client own o x (AskedWhere asked) (body.Told number location) none = absurd none
untold m client own o x (AskedWhere asked) (body.Refused number refusal) none = absurd none
untold m client own o x (SentMutate chunk asked) (body.Done id place) none = absurd none
untold m client own o x (SentRead chunk left asked) (body.Bytes number bytes) none = absurd none
untold m client own o x (SentRead chunk left asked) (body.LenIs number count) none = absurd none
untold m client own o x other b none = tt

pub untold_words : (ms : List Message) (k : ℕ) (clients : List ClientState) (m : Machine) → AllOf (λ x. IsNoTelling x.body) ms → AreWordsSo (stamped k ms) clients m
untold_words ms k clients m all = λ index s at up x was to firm c o is open_call.
    let y = numbered_sent k ms was.0 x was.1 in
    untold m (suc index) s.id o c c.stage x.body (subst (λ (b : Body). IsNoTelling b) (y.2).2 (all_at (λ z. IsNoTelling z.body) ms (y.1).0 y.0 all (y.1).1))

-- what was added to a list is known

same_rest : (sent one two : List Message) → sent ++ one ≡ sent ++ two → one ≡ two
same_rest [] one two same = same
same_rest (m ∷ sent) one two same = same_rest sent one two (tail_same same)
  where
    tail : List Message → List Message
    tail [] = []
    tail (x ∷ xs) = xs

    tail_same : m ∷ (sent ++ one) ≡ m ∷ (sent ++ two) → sent ++ one ≡ sent ++ two
    tail_same e = ap tail e

no_words : (clients : List ClientState) (m : Machine) → AreWordsSo [] clients m
no_words clients m = λ index s at up x was to firm. none_some x was.1

module _ (config : Config) (servers clients : ℕ) (w : WorldState) (r : IsReached config servers clients w) (e : Event) (choice : Choice) (index moment : ℕ) (s : ClientState) (i : NodeInput) (at : element_at w.clients index ≡ Some s) (given : GivesClient w e index moment i) where
  abbrev Says : Happened → Type 0
  Says h = (more : List Message) → h.world.sent ≡ w.sent ++ more → (m : Machine) → AreWordsSo more h.world.clients m

  says_none : Says (nothing_happens w)
  says_none more is m = subst (λ (xs : List Message). AreWordsSo xs w.clients m) (same_rest w.sent [] more (append-nil w.sent ∙ is)) (no_words w.clients m)

  says_step : Says (after_client w index moment (client_step s moment i choice))
  says_step more is m =
      subst (λ (xs : List Message). AreWordsSo xs (after_client w index moment (client_step s moment i choice)).world.clients m)
      (same_rest w.sent (stamped (suc (length w.sent)) (client_step s moment i choice).out.sent) more is)
      (untold_words (client_step s moment i choice).out.sent (suc (length w.sent)) (after_client w index moment (client_step s moment i choice)).world.clients m
      (step_asks s ((numbered_reached config servers clients w r).each index s at).named moment i choice))

  pub says : Says (happens w e choice)
  says = event_case w choice index moment s i at Says says_none (λ up. says_step) e given

pub client_file_steps_keep_worlds_whole : ClientFileStepsKeepWorldsWhole
client_file_steps_keep_worlds_whole config servers clients w r kept e choice clocks index moment s i at given x is of known long h =
    file_steps_keep_worlds_whole config servers clients w r kept e choice clocks index moment s i at given x is of
    (record {
      numbers = known;
      requests = events_keep_requests_numbered config w (and_parts _ _ kept).0 e choice;
      heard = λ up ss k j beside leads chunks run files adds loose. long index moment s i at up given loose ss k j beside leads chunks run files adds;
      waits = λ up ss k m beside leads files words f. waits_so config servers clients w r index s at up moment i m (files index s at up) (words index s at up) f;
      says = says config servers clients w r e choice index moment s i at given;
    }) h
