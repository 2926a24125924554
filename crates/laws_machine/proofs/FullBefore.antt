-- In each world that is reached, a client asks for a chunk past one, to append to it, only where that one was told to be full.
use Rattle.std.proofs.Common.{IsTrue, ◌≡◌, inl, inr, ℕ, zero, suc, true, false, true≢false, List, [], ◌∷◌, ◌++◌, length, map, min, Option, Some, None, refl, sym, ap, subst, ◌∙◌}
use Rattle.std.specs.Option.{option_to_list}
use Rattle.gfs_types.specs.declared.config.Config.{Config}
use Rattle.gfs_types.specs.declared.ids.Handle.{Handle}
use Rattle.gfs_types.specs.declared.ids.Version.{Version}
use Rattle.gfs_types.specs.declared.call.Call.{Call}
use Rattle.gfs_types.specs.declared.call.Call.TheVariants as call
use Rattle.messages.specs.declared.message.Body.{Body}
use Rattle.messages.specs.declared.message.Body.TheVariants as body
use Rattle.messages.specs.declared.message.Message.{Message}
use Rattle.messages.specs.declared.message.Location.{Location}
use Rattle.messages.specs.declared.message.Target.{Target}
use Rattle.messages.specs.declared.message.Target.TheVariants as target
use Rattle.messages.specs.declared.event.Event.{Event}
use Rattle.messages.specs.declared.event.NodeInput.{NodeInput}
use Rattle.client_state.specs.declared.call.CurrentCall.{CurrentCall}
use Rattle.client_state.specs.declared.call.ToldChunk.{ToldChunk}
use Rattle.client_state.specs.declared.call.Stage.{Stage}
use Rattle.client_state.specs.declared.call.Stage.TheVariants.{SentMutate}
use Rattle.protocol.specs.Tables.{element_at, with_at, first_numbers}
use Rattle.protocol.specs.Sending.{message, data_id, the_client, the_server, client_number}
use Rattle.protocol.specs.Choice.{Choice}
use Rattle.protocol.specs.Observer.{order_of}
use Rattle.protocol.specs.Client.{file_chunk, ClientState, ClientDoing, client_begins, new_client, stopped_client}
use Rattle.protocol.specs.ClientAttempts.{is_append, chunk_of, target_of}
use Rattle.protocol.specs.ClientStep.{client_at, client_step, client_call, client_does, calls}
use Rattle.protocol.specs.MasterStep.{master_step, master_restart}
use Rattle.protocol.specs.ServerStep.{server_step, server_restart}
use Rattle.protocol.specs.World.{WorldState, new_world, stamped, happens, after_events, IsReached}
use Rattle.protocol_invariant.specs.AttemptParts.{is_full}
use Rattle.laws_base.proofs.Steps.{none_some, same_some}
use Rattle.laws_base.proofs.Entries.{AllOf}
use Rattle.laws_base.proofs.RisingOrders.{set_cases}
use Rattle.laws_base.proofs.MembersRecorded.{all_at}
use Rattle.laws_base.proofs.ServerMoves.{IsCameIn}
use Rattle.laws_base.specs.Attempts.{is_from_client}
use Rattle.laws_base.specs.Reads.{IsTold}
use Rattle.laws_base.specs.Locations.{chunk_used}
use Rattle.laws_base.proofs.ClientReads.{Came, told_later, stepped, called}
use Rattle.laws_base.proofs.ClientNumbers.{IsStepOf, of_step, of_call}
use Rattle.laws_base.proofs.Events.{HoldsAfter, holds_after}
use Rattle.laws_base.proofs.LeasesStayOver.{reached_later}
use Rattle.laws_base.proofs.RequestsOnce.{AreNumbered, from_itself, each_event, numbered_reached, later_cases}
use Rattle.laws_base.proofs.Senders.{AreNotClients, server_sends, server_restart_sends, master_sends, master_restart_sends, one_client}
use Rattle.laws_base.proofs.UsedNumbers.{one_target}
use Rattle.laws_versions.specs.FullOrders.{HasFullEnd, IsOfFullOrder}
use Rattle.laws_versions.proofs.FullOrders.{full_chunks_have_a_full_order}
use Rattle.laws_machine.specs.AnsweredWrites.{IsToldChunk}
use Rattle.laws_machine.specs.FullBefore.{AsksPastAChunkFindItFull}
use Rattle.laws_machine.proofs.CallWalk.{AnyUsed, StandsNow, IsAsking}
use Rattle.laws_machine.proofs.LaterCalls.{last_at}
use Rattle.laws_machine.proofs.UsedIndexes.{came_in, no_call, used_was_told}
use Rattle.laws_machine.proofs.PastChunks.{IsDenied, IsFit, IsWay, AnyData, AnyReply, AnyEnd, FitAt, fit_on, stands_on, fit_of, Calm, Leaving, step_leaves, call_leaves, AskFits, ask_on, own_ask_fits}
use Rattle.laws_base.specs.Laws.{IsSizeGranted}

append_target : (size index : ℕ) (asked : Call) → is_append asked ≡ true → target_of size index asked ≡ target.Append
append_target size index (call.Append fd bytes) is = refl
append_target size index other is = absurd (true≢false (sym is))

-- of a client: its open call
abbrev IsFitting : List Message → ℕ → ClientState → Type 0
IsFitting sent client s = (c : CurrentCall) → s.current ≡ Some c → FitAt sent client None c c.stage

-- of all messages
abbrev AreAsked : List Message → Type 0
AreAsked sent = (client place : ℕ) (m : Message) → element_at sent place ≡ Some m → m.sender ≡ the_client client → AskFits sent client m.body

-- those of a step
abbrev AreAskedIn : List Message → List Message → Type 0
AreAskedIn sent ms = (client place : ℕ) (m : Message) → element_at ms place ≡ Some m → m.sender ≡ the_client client → AskFits sent client m.body

more_asked : (sent : List Message) (k : ℕ) (ms : List Message) → AreAsked sent → AreAskedIn sent ms → AreAsked (sent ++ stamped k ms)
more_asked sent k ms h new client place m at from =
    elim (later_cases sent k ms place m at) [
      | inl before ↦ ask_on sent (stamped k ms) client m.body (h client place m before from)
      | inr now ↦ ask_on sent (stamped k ms) client m.body (subst (λ (b : Body). AskFits sent client b) (now.2).2 (new client (now.1).0 now.0 (now.1).1 ((now.2).0 ∙ from)))
    ]

others_ask : (sent ms : List Message) → AreNotClients ms → AreAskedIn sent ms
others_ask sent ms none client place m at from =
    absurd (true≢false (sym (from_itself client m.sender from) ∙ all_at (λ (y : Message). is_from_client client y.sender ≡ false) ms place m (one_client client ms none) at))

own_ask : (sent ms : List Message) (index : ℕ) → AllOf (λ m. m.sender ≡ the_client (suc index)) ms → AllOf (λ m. AskFits sent (suc index) m.body) ms → AreAskedIn sent ms
own_ask sent ms index senders fits client place m at from =
    let one : suc index ≡ client = ap client_number (sym (all_at (λ (y : Message). y.sender ≡ the_client (suc index)) ms place m senders at) ∙ from) in
    subst (λ (n : ℕ). AskFits sent n m.body) one (all_at (λ (y : Message). AskFits sent (suc index) y.body) ms place m fits at)

record HasFittingAsks (w : WorldState) : Type 0 where
  numbered : AreNumbered w.sent w.clients
  fitting : (index : ℕ) (s : ClientState) → element_at w.clients index ≡ Some s → IsFitting w.sent (suc index) s
  asked : AreAsked w.sent

more_fitting : (sent more : List Message) (clients : List ClientState) → ((index : ℕ) (s : ClientState) → element_at clients index ≡ Some s → IsFitting sent (suc index) s)
    → (index : ℕ) (s : ClientState) → element_at clients index ≡ Some s → IsFitting (sent ++ more) (suc index) s
more_fitting sent more clients h index s at c is = stands_on sent more (suc index) None c c.stage (h index s at c is)

one_fitting : (sent more : List Message) (clients : List ClientState) (at : ℕ) (t : ClientState) → ((index : ℕ) (s : ClientState) → element_at clients index ≡ Some s → IsFitting sent (suc index) s) → IsFitting (sent ++ more) (suc at) t
    → (index : ℕ) (s : ClientState) → element_at (with_at clients at t) index ≡ Some s → IsFitting (sent ++ more) (suc index) s
one_fitting sent more clients at t h now index s is =
    elim (set_cases clients at t index s is) [
      | inl both ↦ subst (λ (x : ClientState). IsFitting (sent ++ more) (suc index) x) (sym both.1) (subst (λ (n : ℕ). IsFitting (sent ++ more) (suc n) t) (sym both.0) now)
      | inr there ↦ more_fitting sent more clients h index s there
    ]

-- one client

module _ (config : Config) (servers clients : ℕ) (w : WorldState) (r : IsReached config servers clients w) (index : ℕ) (s : ClientState) (at : element_at w.clients index ≡ Some s) (id : s.id ≡ suc index) (fits : IsFitting w.sent (suc index) s) where
  abbrev k : ℕ
  k = suc (length w.sent)

  -- what a step leaves: the open call, and what was asked
  abbrev Left : ClientState → List Message → Type 0
  Left t ms = IsFitting (w.sent ++ stamped (suc (length w.sent)) ms) (suc index) t × AllOf (λ m. AskFits w.sent (suc index) m.body) ms

  -- the location by which it goes was told
  told_for : (c : CurrentCall) (chunk : ToldChunk) → s.current ≡ Some c → chunk_used c.stage ≡ Some chunk → IsToldChunk w.sent (suc index) c.file.0 chunk.index chunk.handle.0 chunk.round.0
  told_for c chunk current used =
      subst (λ (u : WorldState). IsToldChunk u.sent (suc index) c.file.0 chunk.index chunk.handle.0 chunk.round.0) r.1 (record {
        location = told.0;
        told = told.2;
        index_is = ap (λ (x : ToldChunk). x.index) told.1;
        handle_is = ap (λ (x : ToldChunk). x.handle.0) told.1;
        round_is = ap (λ (x : ToldChunk). x.round.0) told.1;
      })
    where
      there : element_at (after_events (new_world config servers clients) r.0).clients index ≡ Some s
      there = subst (λ (u : WorldState). element_at u.clients index ≡ Some s) (sym r.1) at

      told : (l : Location) × (chunk_of l ≡ chunk) × IsTold (after_events (new_world config servers clients) r.0).sent (suc index) c.file.0 l
      told = used_was_told config servers clients r.0 index s c chunk there current used

  module _ (moment : ℕ) where
    calm_asks : (d : ClientDoing) (o : Option Message) → d.sent ≡ o → Calm w.sent (suc index) (client_at s moment) d → ((c : CurrentCall) → d.client.current ≡ Some c → IsFit w.sent (suc index) c) → AllOf (λ m. AskFits w.sent (suc index) m.body) (option_to_list o)
    calm_asks d None is calm fit = tt
    calm_asks d (Some m) is calm fit = (own_ask_fits w.sent (suc index) d.client.current m.body (calm.asks m is) fit, tt)

    calm_left : (d : ClientDoing) → Calm w.sent (suc index) (client_at s moment) d → Left d.client (option_to_list d.sent)
    calm_left d calm = (
      λ c is. stands_on w.sent (stamped (suc (length w.sent)) (option_to_list d.sent)) (suc index) d.sent c c.stage (stands c is),
      calm_asks d d.sent refl calm (λ c is. fit_of w.sent (suc index) d.sent c c.stage (stands c is)),
    )
      where
        stands : (c : CurrentCall) → d.client.current ≡ Some c → FitAt w.sent (suc index) d.sent c c.stage
        stands c is =
            (subst (λ (o : Option CurrentCall). StandsNow (client_at s moment) AnyUsed (IsFit w.sent (suc index)) AnyData (IsWay w.sent (suc index)) AnyReply AnyEnd (Unit {0}) d.sent d.answer o) is calm.stands).1

    -- a primary is asked
    module _ (d : ClientDoing) (g : IsAsking (client_at s moment) AnyUsed (IsFit w.sent (suc index)) AnyData (IsWay w.sent (suc index)) AnyReply AnyEnd (Unit {0}) d) where
      abbrev Word : Message
      Word = message (the_client s.id) (the_server g.primary.0) (body.Mutate (data_id s.id g.number) g.chunk.handle g.chunk.round (target_of (file_chunk (client_at s moment) g.current.file.0) g.current.index g.current.asked) g.current.deadline)

      abbrev Later : List Message
      Later = stamped (suc (length w.sent)) (Word ∷ [])

      located : IsToldChunk w.sent (suc index) g.current.file.0 g.chunk.index g.chunk.handle.0 g.chunk.round.0
      located = told_for g.current g.chunk g.current_is (ap (λ (st : Stage). chunk_used st) g.stage_is)

      way : IsWay (w.sent ++ Later) (suc index) (record g.current { stage = SentMutate g.chunk g.number }) g.chunk g.number
      way = (
        fit_on w.sent Later (suc index) (record g.current { stage = SentMutate g.chunk g.number }) g.over,
        λ append. record {
          asked = record {
            asked = record Word { number = suc (length w.sent) };
            handle = g.chunk.handle;
            version = g.chunk.round;
            deadline = g.current.deadline;
            sent_is = (length w.sent, last_at w.sent (record Word { number = suc (length w.sent) }));
            sender_is = ap (λ (n : ℕ). the_client n) id;
            body_is = ap (λ (n : ℕ). body.Mutate (data_id n g.number) g.chunk.handle g.chunk.round (target_of (file_chunk (client_at s moment) g.current.file.0) g.current.index g.current.asked) g.current.deadline) id
                ∙ ap (λ (t : Target). body.Mutate (data_id (suc index) g.number) g.chunk.handle g.chunk.round t g.current.deadline) (append_target (file_chunk (client_at s moment) g.current.file.0) g.current.index g.current.asked append);
          };
          handle_is = refl;
          version_is = refl;
          chunk_is = record {
            location = located.location;
            told = told_later w.sent Later (suc index) g.current.file.0 located.location located.told;
            index_is = located.index_is;
            handle_is = located.handle_is;
            round_is = located.round_is;
          };
        },
      )

      asking_left : Left d.client (option_to_list d.sent)
      asking_left =
          subst (λ (x : ClientDoing). Left x.client (option_to_list x.sent)) (sym g.is) (
            λ c is. subst (λ (x : CurrentCall). FitAt (w.sent ++ Later) (suc index) None x x.stage) (same_some (record g.current { stage = SentMutate g.chunk g.number }) c is) (g.mutates, way),
            (tt, tt),
          )

    leaving_left : (d : ClientDoing) → Leaving w.sent (suc index) (client_at s moment) d → Left d.client (option_to_list d.sent)
    leaving_left d (inl calm) = calm_left d calm
    leaving_left d (inr g) = asking_left d g

    stopped : Left (stopped_client s) []
    stopped = ((λ c is. none_some c is), tt)

    same : Left s []
    same = ((λ c is. stands_on w.sent (stamped (suc (length w.sent)) []) (suc index) None c c.stage (fits c is)), tt)

    pub step_left : (i : NodeInput) (choice : Choice) → IsCameIn (Came w.sent (suc index)) i → Left (client_step s moment i choice).state (client_step s moment i choice).out.sent
    step_left i choice came =
        stepped Left s moment i choice (leaving_left (client_does (client_begins (client_at s moment)) i s.current) (step_leaves w.sent (suc index) (client_at s moment) fits i came)) stopped same

    pub call_left : (c : Call) (choice : Choice) → s.current ≡ None → Left (client_call s moment c choice).state (client_call s moment c choice).out.sent
    call_left c choice none =
        called Left s moment c choice (calm_left (calls (client_begins (client_at s moment)) c) (call_leaves w.sent (suc index) (client_at s moment) fits c)) ((λ e is. none_some e is), tt) ((λ e is. none_some e is), tt)

-- worlds

said_by : (index : ℕ) (s : ClientState) → s.id ≡ suc index → (t : ClientState) → t.id ≡ s.id → (d : ClientDoing) (o : Option Message) → d.sent ≡ o → IsStepOf t d → AllOf (λ m. m.sender ≡ the_client (suc index)) (option_to_list o)
said_by index s id t alike d None is step = tt
said_by index s id t alike d (Some m) is step = ((step.says m is).0 ∙ ap (λ (n : ℕ). the_client n) (alike ∙ id), tt)

each_sound : (config : Config) (servers clients : ℕ) (w : WorldState) → IsReached config servers clients w → HasFittingAsks w → HoldsAfter w (λ e x. HasFittingAsks x.world)
each_sound config servers clients w r h =
    let n = each_event w h.numbered in
    let k : ℕ = suc (length w.sent) in
    record {
      nothing = λ e. h;
      masters = λ e moment i choice is up.
          let ms : List Message = (master_step w.master moment i choice).out.sent in
          record { numbered = n.masters e moment i choice is up; fitting = more_fitting w.sent (stamped k ms) w.clients h.fitting; asked = more_asked w.sent k ms h.asked (others_ask w.sent ms (master_sends w.master moment i choice)) };
      opens = λ e moment choice.
          let ms : List Message = (master_restart w.master moment choice).out.sent in
          record { numbered = n.opens e moment choice; fitting = more_fitting w.sent (stamped k ms) w.clients h.fitting; asked = more_asked w.sent k ms h.asked (others_ask w.sent ms (master_restart_sends w.master moment choice)) };
      serves = λ e index moment s i choice at is up.
          let ms : List Message = (server_step s moment i choice).out.sent in
          record { numbered = n.serves e index moment s i choice at is up; fitting = more_fitting w.sent (stamped k ms) w.clients h.fitting; asked = more_asked w.sent k ms h.asked (others_ask w.sent ms (server_sends s moment i choice)) };
      restarts = λ e index moment s choice at.
          let ms : List Message = (server_restart s moment choice).out.sent in
          record { numbered = n.restarts e index moment s choice at; fitting = more_fitting w.sent (stamped k ms) w.clients h.fitting; asked = more_asked w.sent k ms h.asked (others_ask w.sent ms (server_restart_sends s moment choice)) };
      steps = λ e index moment s i choice at is up.
          let ms : List Message = (client_step s moment i choice).out.sent in
          let own = h.numbered.each index s at in
          let left = step_left config servers clients w r index s at own.id (h.fitting index s at) moment i choice (came_in w e (suc index) moment i is) in
          record {
            numbered = n.steps e index moment s i choice at is up;
            fitting = one_fitting w.sent (stamped k ms) w.clients index (client_step s moment i choice).state h.fitting left.0;
            asked = more_asked w.sent k ms h.asked (own_ask w.sent ms index
                (of_step (λ t xs. AllOf (λ m. m.sender ≡ the_client (suc index)) xs) s moment i choice own.named (λ d step. said_by index s own.id (client_at s moment) refl d d.sent refl step) tt tt) left.1);
          };
      calls = λ e index moment s c choice at may.
          let ms : List Message = (client_call s moment c choice).out.sent in
          let own = h.numbered.each index s at in
          let left = call_left config servers clients w r index s at own.id (h.fitting index s at) moment c choice (no_call s may) in
          record {
            numbered = n.calls e index moment s c choice at may;
            fitting = one_fitting w.sent (stamped k ms) w.clients index (client_call s moment c choice).state h.fitting left.0;
            asked = more_asked w.sent k ms h.asked (own_ask w.sent ms index
                (of_call (λ t xs. AllOf (λ m. m.sender ≡ the_client (suc index)) xs) s moment c choice own.named (λ d step. said_by index s own.id (client_at s moment) refl d d.sent refl step) tt) left.1);
          };
      rots = λ e index handle s d place byte ending is_kept at there up. record { numbered = h.numbered; fitting = h.fitting; asked = h.asked };
    }

sound_on : (config : Config) (servers clients : ℕ) (w : WorldState) (steps : List (Event × Choice)) → IsReached config servers clients w → HasFittingAsks w → HasFittingAsks (after_events w steps)
sound_on config servers clients w [] r h = h
sound_on config servers clients w (step ∷ rest) r h =
    sound_on config servers clients (happens w step.0 step.1).world rest (reached_later config servers clients w (step ∷ []) r) (holds_after w (λ e x. HasFittingAsks x.world) (each_sound config servers clients w r h) step.0 step.1)

new_fits : (config : Config) (ns : List ℕ) (index : ℕ) (s : ClientState) → element_at (map (new_client config) ns) index ≡ Some s → s.current ≡ None
new_fits config [] index s is = none_some s is
new_fits config (n ∷ ns) zero s is = ap (λ (c : ClientState). c.current) (sym (same_some (new_client config n) s is))
new_fits config (n ∷ ns) (suc index) s is = new_fits config ns index s is

sound_reached : (config : Config) (servers clients : ℕ) (w : WorldState) → IsReached config servers clients w → HasFittingAsks w
sound_reached config servers clients w r =
    subst (λ (u : WorldState). HasFittingAsks u) r.1
    (sound_on config servers clients (new_world config servers clients) r.0 ([], refl)
    (record {
      numbered = numbered_reached config servers clients (new_world config servers clients) ([], refl);
      fitting = λ index s at c is. none_some c (sym (new_fits config (first_numbers clients) index s at) ∙ is);
      asked = λ client place m at from. none_some m at;
    }))

pub asks_past_a_chunk_find_it_full : AsksPastAChunkFindItFull
asks_past_a_chunk_find_it_full config servers clients w r kept some place client number past m file deadline lost at from is =
    record {
      handle = denied.handle.0;
      round = denied.round;
      chunk = denied.chunk;
      size = full.size;
      granted = subst (λ (n : ℕ). IsSizeGranted w.sent n denied.round full.size) handle_is (subst (λ (v : ℕ). IsSizeGranted w.sent full.handle.0 v full.size) version_is full.granted);
      full = subst (λ (n : ℕ). IsTrue (is_full w n (min full.size w.config.chunk))) handle_is full.full;
      ends = subst (λ (n : ℕ). HasFullEnd (min full.size w.config.chunk) (order_of w.observer n) denied.round) handle_is (subst (λ (v : ℕ). HasFullEnd (min full.size w.config.chunk) (order_of w.observer full.handle.0) v) version_is full.ends);
    }
  where
    denied : IsDenied w.sent client file.0 past
    denied = subst (λ (b : Body). AskFits w.sent client b) is ((sound_reached config servers clients w r).asked client place m at from)

    full : IsOfFullOrder w (data_id client denied.number)
    full = full_chunks_have_a_full_order config servers clients w r kept some (denied.told_is).0 client denied.number denied.told (denied.told_is).1 denied.receiver_is denied.body_is

    same : (full.handle ≡ denied.asked.handle) × (full.version ≡ denied.asked.version)
    same =
        one_target config servers clients w r (data_id client denied.number) full.handle denied.asked.handle full.version denied.asked.version
        (record { asked = full.asked; aim = full.aim; deadline = full.deadline; sent_is = full.sent_is; sender_is = full.sender_is; body_is = full.body_is })
        (record { asked = denied.asked.asked; aim = target.Append; deadline = denied.asked.deadline; sent_is = denied.asked.sent_is; sender_is = denied.asked.sender_is; body_is = denied.asked.body_is })

    handle_is : full.handle.0 ≡ denied.handle.0
    handle_is = ap (λ (x : Handle). x.0) (same.0 ∙ denied.handle_is)

    version_is : full.version.0 ≡ denied.round
    version_is = ap (λ (v : Version). v.0) same.1 ∙ denied.version_is
