-- Each Mutate that was sent is of data that its client pushed: it was sent while the client waited for them to be pushed.
use Rattle.std.proofs.Common.{◌≡◌, ℕ, suc, ◌≤◌, true, false, List, [], ◌∷◌, ◌++◌, length, Option, Some, None, refl, sym, ap, subst, ◌∙◌, inl, inr, arith}
use Rattle.std.specs.Prelude.{IsTrue}
use Rattle.std.specs.Option.{option_to_list}
use Rattle.std.proofs.lemmas.Bool.{and_parts}
use Rattle.gfs_types.specs.declared.config.Config.{Config}
use Rattle.gfs_types.specs.declared.ids.DataId.{DataId}
use Rattle.gfs_types.specs.declared.ids.Handle.{Handle}
use Rattle.gfs_types.specs.declared.ids.Moment.{Moment}
use Rattle.gfs_types.specs.declared.ids.Version.{Version}
use Rattle.messages.specs.declared.event.Event.{Event}
use Rattle.messages.specs.declared.event.NodeInput.{NodeInput}
use Rattle.messages.specs.declared.message.Body.{Body}
use Rattle.messages.specs.declared.message.Body.TheVariants as body
use Rattle.messages.specs.declared.message.Message.{Message}
use Rattle.messages.specs.declared.message.Target.{Target}
use Rattle.client_state.specs.declared.call.CurrentCall.{CurrentCall}
use Rattle.client_state.specs.declared.call.ToldChunk.{ToldChunk}
use Rattle.client_state.specs.declared.call.Stage.{Stage}
use Rattle.client_state.specs.declared.call.Stage.TheVariants.{SentData}
use Rattle.protocol.specs.Tables.{element_at}
use Rattle.protocol.specs.Sending.{data_id}
use Rattle.protocol.specs.Choice.{Choice, Ending, Goes, Lost, Stops}
use Rattle.protocol.specs.Client.{ClientState, ClientDoing}
use Rattle.protocol.specs.ClientStep.{client_at, client_step, client_call}
use Rattle.protocol.specs.MasterStep.{master_step, master_restart}
use Rattle.protocol.specs.Server.{ServerState}
use Rattle.protocol.specs.ServerStep.{server_at, server_step, server_restarts, server_restart}
use Rattle.protocol.specs.World.{WorldState, new_world, stamped, after_events, IsReached}
use Rattle.laws_base.proofs.Steps.{none_some, same_some}
use Rattle.laws_base.proofs.Entries.{AllOf}
use Rattle.laws_base.proofs.MembersRecorded.{all_at}
use Rattle.laws_base.proofs.MasterTalks.{is_masters}
use Rattle.laws_base.specs.Attempts.{waited_data, data_number}
use Rattle.laws_base.proofs.ClientNumbers.{IsSaid, IsStepOf, of_step, of_call}
use Rattle.laws_base.proofs.Events.{HoldsAfter, holds_after}
use Rattle.laws_base.proofs.Histories.{IsGrown, steps_grown, SentIn, sent_in, after_both}
use Rattle.laws_base.proofs.MasterTalks.{MasterTalks, master_said, restart_said}
use Rattle.laws_base.proofs.RequestsOnce.{AreNumbered, numbered_reached}
use Rattle.laws_base.proofs.ServerTalks.{is_quiet, Talks, step_said}
use Rattle.laws_base.specs.Entries.{IsPushed}
use Rattle.laws_versions.proofs.ExtendLaws.{new_one, none_before}
use Rattle.laws_machine.proofs.CallWalk.{StandsAt, AnyUsed}
use Rattle.laws_machine.proofs.LaterCalls.{CallStands, pushed_later}
use Rattle.laws_machine.proofs.OpenStages.{HasPushed, IsOpen, HasData, IsUnderWay, AnyReply}
use Rattle.laws_machine.proofs.OpenCalls.{SinceFor, Never, NeverFor, all_since, new_on}
use Rattle.headline.specs.Answers.{MutatesAreOfPushedData}

-- who sends no Mutate

abbrev NoMutate : Body → Type 0
NoMutate (body.Mutate id handle version aim deadline) = ⊥
NoMutate other = Unit {0}

masters_none : (b : Body) → is_masters b ≡ true → NoMutate b
masters_none (body.Mutate id handle version aim deadline) is = absurd (let both : false ≡ true = is in cc)
masters_none other is = tt

quiet_none : (b : Body) → is_quiet b ≡ true → NoMutate b
quiet_none (body.Mutate id handle version aim deadline) is = absurd (let both : false ≡ true = is in cc)
quiet_none other is = tt

master_talks : MasterTalks (λ m. NoMutate m.body)
master_talks = record { plain = λ receiver b is. masters_none b is; locates = λ receiver number l current. tt }

server_talks : (s : ServerState) (i : NodeInput) → Talks s i (λ r b. NoMutate b) (λ v. Unit {0}) (λ x. Unit {0})
server_talks s i =
    record {
      quiet = λ receiver b is. quiet_none b is;
      reads = λ m number handle version offset count r bytes is asked row same there. tt;
      lengths = λ m number handle version r is asked row same. tt;
      pushes = λ m id bytes rest is asked. (tt, λ receiver hops. tt);
      settled = λ handle version serial. tt;
      numbers = λ m id handle version t deadline p bytes placed is asked primary new there fit. tt;
    }

all_kept : (es : List (DataId × List ℕ)) → AllOf (λ x. Unit {0}) es
all_kept [] = tt
all_kept (x ∷ es) = (tt, all_kept es)

restart_none : (s : ServerState) (moment : ℕ) (choice : Choice) (e : Ending) → AllOf (λ m. NoMutate m.body) (server_restarts s moment choice e).out.sent
restart_none s moment choice Goes = tt
restart_none s moment choice Lost = tt
restart_none s moment choice (Stops made) = tt

-- a client's Mutate is of the data for which it waited to be pushed

abbrev IsMadeBy : ClientState → Body → Type 0
IsMadeBy s (body.Mutate id handle version aim deadline) = (id.client.0 ≡ s.id) × (waited_data s.current ≡ Some id.seq)
IsMadeBy s other = Unit {0}

said_made : (s t : ClientState) (b : Body) → IsSaid s t b → IsMadeBy s b
said_made s t (body.Mutate id handle version aim deadline) said = (said.0, said.2)
said_made s t other said = tt

client_made : (s : ClientState) (moment : ℕ) (d : ClientDoing) (o : Option Message) → IsStepOf (client_at s moment) d → d.sent ≡ o → AllOf (λ m. IsMadeBy s m.body) (option_to_list o)
client_made s moment d None step is = tt
client_made s moment d (Some m) step is = (said_made (client_at s moment) d.client m.body (step.says m is).1, tt)

data_pushed : (G : ℕ → ToldChunk → ℕ → Type 0) (config : Config) (sent : List Message) (greatest client now n : ℕ) (o : Option CurrentCall) → waited_data o ≡ Some n → CallStands G config sent greatest client now None o → HasPushed sent client n
data_pushed G config sent greatest client now n None is stands = none_some n is
data_pushed G config sent greatest client now n (Some c) is stands = by_stage c.stage is stands
  where
    by_stage : (st : Stage) → data_number st ≡ Some n
        → StandsAt AnyUsed (IsOpen G config sent greatest client now) (λ o c chunk number. HasData config sent greatest client o c chunk number) (IsUnderWay G config sent greatest client now) AnyReply None c st → HasPushed sent client n
    by_stage (SentData chunk primary number) is h = elim ((h.2).1) [
      | inl pushed ↦ subst (λ (k : ℕ). HasPushed sent client k) (same_some number n is) pushed
      | inr pushing ↦ none_some pushing.0 pushing.1
    ]
    by_stage other is h = none_some n is

module _ (config : Config) (servers clients : ℕ) (w : WorldState) (r : IsReached config servers clients w) where
  abbrev Pushed : DataId → Type 0
  Pushed id = (bytes : List ℕ) × IsPushed w.sent id bytes

  numbered : AreNumbered w.sent w.clients
  numbered = numbered_reached config servers clients w r

  module _ (index : ℕ) (s : ClientState) (at : element_at w.clients index ≡ Some s) (up : IsTrue s.up) where
    has_pushed : (n : ℕ) → waited_data s.current ≡ Some n → HasPushed w.sent (suc index) n
    has_pushed n is =
        subst (λ (v : WorldState). element_at v.clients index ≡ Some s → HasPushed v.sent (suc index) n) r.1
        (λ there.
        let start : WorldState = new_world config servers clients in
        let v : WorldState = after_events start r.0 in
        data_pushed (SinceFor config index start r.0 NeverFor) config v.sent v.observer.greatest (suc index) s.now n s.current is
        (((all_since config index servers clients start r.0 Never NeverFor ([], refl) (new_on config servers clients index)).stands s there).call up)) at

    made_pushed : (id : DataId) → id.client.0 ≡ s.id → waited_data s.current ≡ Some id.seq → Pushed id
    made_pushed id own is =
        let mine : id.client.0 ≡ suc index = own ∙ (numbered.each index s at).id in
        subst (λ (c : ℕ). (bytes : List ℕ) × IsPushed w.sent (data_id c id.seq) bytes) (sym mine) (has_pushed id.seq is)

  -- what an event sends

  abbrev AreNewPushed : WorldState → Type 0
  AreNewPushed v =
      (place : ℕ) (m : Message) → length w.sent ≤ place → element_at v.sent place ≡ Some m → (id : DataId) (handle : Handle) (version : Version) (aim : Target) (deadline : Moment) → m.body ≡ body.Mutate id handle version aim deadline → Pushed id

  silent : (ms : List Message) → AllOf (λ m. NoMutate m.body) ms → (place : ℕ) (m : Message) → length w.sent ≤ place → element_at (w.sent ++ stamped (suc (length w.sent)) ms) place ≡ Some m
      → (id : DataId) (handle : Handle) (version : Version) (aim : Target) (deadline : Moment) → m.body ≡ body.Mutate id handle version aim deadline → Pushed id
  silent ms none place m from at id handle version aim deadline is =
      let x = new_one w.sent ms (suc (length w.sent)) place m from at in absurd (subst NoMutate ((x.2).2 ∙ is) (all_at (λ (y : Message). NoMutate y.body) ms (x.1).0 x.0 none (x.1).1))

  spoken : (index : ℕ) (s : ClientState) → element_at w.clients index ≡ Some s → IsTrue s.up → (ms : List Message) → AllOf (λ m. IsMadeBy s m.body) ms
      → (place : ℕ) (m : Message) → length w.sent ≤ place → element_at (w.sent ++ stamped (suc (length w.sent)) ms) place ≡ Some m
      → (id : DataId) (handle : Handle) (version : Version) (aim : Target) (deadline : Moment) → m.body ≡ body.Mutate id handle version aim deadline → Pushed id
  spoken index s there up ms made place m from at id handle version aim deadline is =
      let x = new_one w.sent ms (suc (length w.sent)) place m from at in
      let mine : IsMadeBy s (body.Mutate id handle version aim deadline) = subst (IsMadeBy s) ((x.2).2 ∙ is) (all_at (λ (y : Message). IsMadeBy s y.body) ms (x.1).0 x.0 made (x.1).1) in
      made_pushed index s there up id mine.0 mine.1

  each_pushed : HoldsAfter w (λ e x. AreNewPushed x.world)
  each_pushed = record {
    nothing = λ e place m from at id handle version aim deadline is. none_before w.sent place m from at;
    masters = λ e moment i choice given up. silent (master_step w.master moment i choice).out.sent (master_said (λ m. NoMutate m.body) master_talks w.master moment i choice);
    opens = λ e moment choice. silent (master_restart w.master moment choice).out.sent (restart_said (λ m. NoMutate m.body) master_talks w.master moment choice);
    serves = λ e index moment s i choice at given up. silent (server_step s moment i choice).out.sent (step_said (λ r b. NoMutate b) (λ v. Unit {0}) (λ x. Unit {0}) s moment i choice (server_talks (server_at s moment) i) (all_kept s.pushed.entries)).0;
    restarts = λ e index moment s choice at. silent (server_restart s moment choice).out.sent (restart_none s moment choice choice.ending);
    steps = λ e index moment s i choice at given up. spoken index s at up (client_step s moment i choice).out.sent
        (of_step (λ t ms. AllOf (λ m. IsMadeBy s m.body) ms) s moment i choice (numbered.each index s at).named (λ d step. client_made s moment d d.sent step refl) tt tt);
    calls = λ e index moment s c choice at may. spoken index s at (and_parts s.up _ may).0 (client_call s moment c choice).out.sent
        (of_call (λ t ms. AllOf (λ m. IsMadeBy s m.body) ms) s moment c choice (numbered.each index s at).named (λ d step. client_made s moment d d.sent step refl) tt);
    rots = λ e index q s x at_place byte ending is_kept there held up place m from at id handle version aim deadline is. none_before w.sent place m from at;
  }

pub mutates_are_of_pushed_data : MutatesAreOfPushedData
mutates_are_of_pushed_data config servers clients w r place m at id handle version aim deadline is = (now.0, subst (λ (ms : List Message). IsPushed ms id now.0) (sym grown.1) (pushed_later u.sent grown.0 id now.0 now.1))
  where
    start : WorldState
    start = new_world config servers clients

    h : SentIn start r.0 place m
    h = sent_in start r.0 place m (omega arith) (ap (λ (v : WorldState). element_at v.sent place) r.1 ∙ at)

    u : WorldState
    u = after_events start h.before

    path : after_events u (h.step ∷ h.after) ≡ w
    path = sym (ap (λ (steps : List (Event × Choice)). after_events start steps) h.steps_are ∙ after_both start h.before (h.step ∷ h.after)) ∙ r.1

    grown : IsGrown u.sent w.sent
    grown = subst (λ (v : WorldState). IsGrown u.sent v.sent) path (steps_grown u (h.step ∷ h.after))

    now : (bytes : List ℕ) × IsPushed u.sent id bytes
    now = holds_after u (λ e x. AreNewPushed config servers clients u (h.before, refl) x.world) (each_pushed config servers clients u (h.before, refl)) h.step.0 h.step.1 place m h.unsent h.sent_is id handle version aim deadline is
