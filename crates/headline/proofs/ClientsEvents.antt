-- Each event of a client keeps a whole machine beside the world.
use Rattle.std.proofs.Common.{◌≡◌, ◌⊎◌, ℕ, zero, suc, ◌-◌, ◌≤◌, Bool, true, max, List, Option, Some, None, refl, sym, ap, subst, ◌∙◌, inl, inr, arith, []}
use Rattle.std.specs.Prelude.{nat_le, ◌&&◌, is_none, IsTrue, IsFalse}
use Rattle.std.proofs.lemmas.Bool.{true≢false, and_parts}
use Rattle.std.proofs.Math.Nat.{le-max_right}
use Rattle.gfs_types.specs.declared.config.Config.{Config}
use Rattle.gfs_types.specs.declared.call.Call.{Call}
use Rattle.gfs_types.specs.declared.ids.ClientId.{ClientId}
use Rattle.gfs_types.specs.declared.ids.Moment.{Moment}
use Rattle.gfs_types.specs.declared.ids.Node.{Node}
use Rattle.gfs_types.specs.declared.ids.Node.TheVariants as node
use Rattle.messages.specs.declared.event.Event.{Event}
use Rattle.messages.specs.declared.event.Event.TheVariants as event
use Rattle.messages.specs.declared.event.NodeInput.{NodeInput}
use Rattle.messages.specs.declared.event.NodeInput.TheVariants as input
use Rattle.messages.specs.declared.message.Message.{Message}
use Rattle.relaxed_file.specs.Run.{Visible}
use Rattle.client_state.specs.declared.call.CurrentCall.{CurrentCall}
use Rattle.client_state.specs.declared.call.Stage.{Stage}
use Rattle.client_state.specs.declared.call.Stage.TheVariants.{AskedNames}
use Rattle.protocol.specs.Tables.{moment_limit, element_at}
use Rattle.protocol.specs.Choice.{Choice}
use Rattle.protocol.specs.Seen.{Taken}
use Rattle.protocol.specs.Sending.{the_client}
use Rattle.protocol.specs.Observer.{Observer, observed_moment, observed_call, observed_answer}
use Rattle.protocol.specs.Logged.{Logged}
use Rattle.protocol.specs.Master.{MasterState, PendingSnapshot}
use Rattle.protocol.specs.Client.{ClientState}
use Rattle.protocol.specs.ClientStep.{has_room_to_count, may_call, client_step, client_call}
use Rattle.protocol.specs.World.{WorldState, Happened, nothing_happens, numbered_from_1, after_client, call_moves, client_moves, moves, delivered, at_moment, happens, IsReached, is_kept}
use Rattle.laws_base.proofs.Steps.{on_cond, none_some}
use Rattle.laws_base.proofs.RisingOrders.{element_numbered}
use Rattle.laws_base.specs.FileCalls.{IsOfFile}
use Rattle.laws_base.proofs.Events.{with_call}
use Rattle.laws_base.proofs.RequestsOnce.{numbered_reached}
use Rattle.laws_names.specs.Beside.{answered_trace, ComesTo}
use Rattle.laws_names.specs.BesideClients.{IsAskedFor}
use Rattle.laws_names.proofs.KeptAnswersReached.{kept_answers_were_asked_for}
use Rattle.laws_names.proofs.WaitingRequests.{snapshots_wait_for_their_request}
use Rattle.laws_names.proofs.BesideClientsBeside.{passed_trace}
use Rattle.laws_names.proofs.Worlds.{passed_once}
use Rattle.laws_machine.specs.ChunksBeside.{IsMastersEvent}
use Rattle.laws_machine.specs.Rounds.{log_as}
use Rattle.laws_machine.specs.WholeWorlds.{HasMachine, IsWholeWorld}
use Rattle.laws_machine.specs.WholeClients.{GivesClient}
use Rattle.laws_machine.proofs.ChunksBeside.{master_left}
use Rattle.laws_machine.proofs.WholeClients.{came, not_masters, event_case, answered_fields}
use Rattle.headline.specs.ClientsEvents.{IsClient, IsClientsEvent, AreOpenCallsKnown, AreTooLong, IdleStepsKeepWorldsWhole, NameStepsKeepWorldsWhole, CallsKeepWorldsWhole, ClientsEventsKeepWorldsWhole}
use Rattle.headline.proofs.ClientWords.{step_asks, call_asks}
use Rattle.headline.proofs.ClientsFileSteps.{client_file_steps_keep_worlds_whole}
use Rattle.headline.proofs.ClientsGo.{IsBesideAfter, stands_beside, idle_stands, name_step_stands, any_call_stands}

-- the master is left, and what its log keeps was asked for

module _ (config : Config) (servers clients : ℕ) (w : WorldState) (r : IsReached config servers clients w) (v : WorldState) where
  abbrev Up : MasterState → Type 0
  Up m = IsTrue m.up → HasMachine config v m.logged m.snapshots

  abbrev Down : MasterState → Type 0
  Down m = IsFalse m.up → (decided : List Bool) → HasMachine config v (log_as m decided) []

  asked_left : v.master ≡ w.master → ((l : Logged) (ss : List PendingSnapshot) → IsAskedFor w.sent l ss → HasMachine config w l ss → HasMachine config v l ss) → IsWholeWorld config w → IsWholeWorld config v
  asked_left left on h =
      let kept = kept_answers_were_asked_for config servers clients w r in
      record {
        state = subst Up (sym left) (λ up. on w.master.logged w.master.snapshots (kept.0 up, snapshots_wait_for_their_request config servers clients w r up) (h.state up));
        log = subst Down (sym left) (λ down decided. on (log_as w.master decided) [] (kept.1 decided, tt) (h.log down decided));
      }

-- what was given to a client was sent to it

comes_in : (w : WorldState) (e : Event) (index moment : ℕ) (i : NodeInput) → GivesClient w e index moment i → (j : NodeInput) → i ≡ j → ComesTo w.sent (suc index) j
comes_in w e index moment i given (input.Deliver y) same = came w e index moment i given y same
comes_in w e index moment i given input.Tick same = tt

-- a step without a call

abbrev Cases : WorldState → ClientState → Happened → Happened → Type 0
Cases w s after_it z = (z ≡ nothing_happens w) ⊎ (IsTrue s.up × (z ≡ after_it))

module _ (config : Config) (servers clients : ℕ) (w : WorldState) (r : IsReached config servers clients w) (kept : IsTrue (is_kept w)) (e : Event) (choice : Choice) (clocks : IsTrue (happens w e choice).world.observer.are_clocks_kept)
    (index moment : ℕ) (s : ClientState) (i : NodeInput) (at : element_at w.clients index ≡ Some s) (given : GivesClient w e index moment i) (known : AreOpenCallsKnown config w) (h : IsWholeWorld config w)
  where
    abbrev t : Taken ClientState
    t = client_step s moment i choice

    abbrev u : WorldState
    u = (after_client w index moment t).world

    cases : Cases w s (after_client w index moment t) (happens w e choice)
    cases = event_case w choice index moment s i at (Cases w s (after_client w index moment t)) (inl refl) (λ up. inr (up, refl)) e given

    nothing_kept : happens w e choice ≡ nothing_happens w → IsWholeWorld config (happens w e choice).world
    nothing_kept is = subst (λ (z : Happened). IsWholeWorld config z.world) (sym is) h

    module _ (stands : (up : IsTrue s.up) (l : Logged) (ss : List PendingSnapshot) → (b : HasMachine config w l ss) → IsAskedFor w.sent (b.0).log ss
        → IsBesideAfter config servers clients w r kept e choice clocks (not_masters w e index moment i given) known index moment s at up ss b.0 b.2 (answered_trace (suc index) t.out.answer (passed_trace w.observer.greatest moment w.observer.trace)) t)
      where
        stood_whole : IsWholeWorld config (happens w e choice).world
        stood_whole =
            elim (cases) [
              | inl is ↦ nothing_kept is
              | inr goes ↦
                  let same : u ≡ (happens w e choice).world = sym (ap (λ (z : Happened). z.world) goes.1) in
                  let fields = answered_fields (observed_moment w.config.skew_ms w.observer moment) (suc index) t.out.answer in
                  asked_left config servers clients w r (happens w e choice).world (master_left w e choice (not_masters w e index moment i given))
                  (λ l ss asked b.
                  let moved_asked : IsAskedFor w.sent (b.0).log ss = subst (λ (q : Logged). IsAskedFor w.sent q ss) (sym b.1) asked in
                  let on = stands_beside config servers clients w r kept e choice clocks (not_masters w e index moment i given) known index moment s at goes.0 ss b.0 b.2 _ t (stands goes.0 l ss b moved_asked)
                  (step_asks s ((numbered_reached config servers clients w r).each index s at).named moment i choice)
                  (fields.0 ∙ ap (λ (z : WorldState). z.observer.trace) same) (fields.1 ∙ ap (λ (z : WorldState). z.observer.greatest) same) (ap (λ (z : WorldState). z.sent) same) (ap (λ (z : WorldState). z.clients) same) in
                  (on.0, on.1 ∙ b.1, on.2)) h
            ]

    pub idle_whole : s.current ≡ None → IsWholeWorld config (happens w e choice).world
    idle_whole none = stood_whole (λ up l ss b asked. idle_stands config servers clients w r kept e choice clocks (not_masters w e index moment i given) known index moment s at up ss b.0 b.2 none i)

    pub name_whole : (x : CurrentCall) → s.current ≡ Some x → x.stage ≡ AskedNames → IsWholeWorld config (happens w e choice).world
    name_whole x is staged =
        stood_whole (λ up l ss b asked. name_step_stands config servers clients w r kept e choice clocks (not_masters w e index moment i given) known index moment s at up ss b.0 b.2 asked i
        (comes_in w e index moment i given i refl) x is staged)

    pub down_whole : IsFalse s.up → IsWholeWorld config (happens w e choice).world
    down_whole down = elim (cases) [ inl is ↦ nothing_kept is | inr goes ↦ absurd (true≢false (sym goes.0 ∙ down)) ]

pub idle_steps_keep_worlds_whole : IdleStepsKeepWorldsWhole
idle_steps_keep_worlds_whole config servers clients w r kept e choice clocks index moment s i at given why known h =
    elim (why) [
      | inl none ↦ idle_whole config servers clients w r kept e choice clocks index moment s i at given known h none
      | inr down ↦ down_whole config servers clients w r kept e choice clocks index moment s i at given known h down
    ]

pub name_steps_keep_worlds_whole : NameStepsKeepWorldsWhole
name_steps_keep_worlds_whole config servers clients w r kept e choice clocks index moment s i at given x is staged known h =
    name_whole config servers clients w r kept e choice clocks index moment s i at given known h x is staged

-- a call

no_call : (o : Option CurrentCall) → is_none o ≡ true → o ≡ None
no_call None is = refl
no_call (Some x) is = absurd (true≢false (sym is))

module _ (config : Config) (some : 1 ≤ config.chunk) (servers clients : ℕ) (w : WorldState) (r : IsReached config servers clients w) (kept : IsTrue (is_kept w)) (client : ClientId) (c : Call) (now : Moment) (choice : Choice)
    (clocks : IsTrue (happens w (event.Call client c now) choice).world.observer.are_clocks_kept) (known : AreOpenCallsKnown config w) (h : IsWholeWorld config w)
  where
    abbrev at_time : ℕ
    at_time = now.0

    abbrev the_call : Event
    the_call = event.Call client c now

    -- the client may be called, and this comes of it
    record IsCalled (z : Happened) : Type 0 where
      index : ℕ
      state : ClientState
      at : element_at w.clients index ≡ Some state
      may : may_call state ≡ true
      is : z ≡ after_client (with_call w index at_time c) index at_time (client_call state at_time c choice)

    abbrev CallCases : Happened → Type 0
    CallCases z = (z ≡ nothing_happens w) ⊎ IsCalled z

    call_at : (o : Option ClientState) → numbered_from_1 w.clients client.0 ≡ o → CallCases (call_moves w (client.0 - 1) at_time c choice o)
    call_at None there = inl refl
    call_at (Some s) there =
        on_cond CallCases (may_call s) (after_client (with_call w (client.0 - 1) at_time c) (client.0 - 1) at_time (client_call s at_time c choice)) (nothing_happens w)
        (λ may. inr (record { index = client.0 - 1; state = s; at = element_numbered w.clients client.0 s there; may = may; is = refl })) (λ _. inl refl)

    call_cases : CallCases (happens w (event.Call client c now) choice)
    call_cases =
        on_cond CallCases (nat_le at_time moment_limit) (call_moves w (client.0 - 1) at_time c choice (numbered_from_1 w.clients client.0)) (nothing_happens w)
        (λ _. call_at (numbered_from_1 w.clients client.0) refl) (λ _. inl refl)

    no_master : IsMastersEvent w (event.Call client c now) → ⊥
    no_master masters = masters

    module _ (x : IsCalled (happens w (event.Call client c now) choice)) where
      abbrev index : ℕ
      index = x.index

      abbrev s : ClientState
      s = x.state

      abbrev told : Taken ClientState
      told = client_call s at_time c choice

      parts : (s.up ≡ true) × ((is_none s.current && has_room_to_count s) ≡ true)
      parts = and_parts s.up (is_none s.current && has_room_to_count s) x.may

      up : IsTrue s.up
      up = parts.0

      none : s.current ≡ None
      none = no_call s.current (and_parts (is_none s.current) (has_room_to_count s) parts.1).0

      abbrev seen : Observer
      seen = observed_call (observed_moment w.config.skew_ms w.observer at_time) (suc index) c

      once : (seen.trace ≡ passed_trace seen.greatest at_time seen.trace) × (seen.greatest ≡ max seen.greatest at_time)
      once = passed_once seen.trace seen.greatest at_time (le-max_right w.observer.greatest at_time)

      fields : (answered_trace (suc index) told.out.answer (passed_trace seen.greatest at_time seen.trace) ≡ (observed_answer (observed_moment w.config.skew_ms seen at_time) (suc index) told.out.answer).trace)
          × (max seen.greatest at_time ≡ (observed_answer (observed_moment w.config.skew_ms seen at_time) (suc index) told.out.answer).greatest)
      fields = answered_fields (observed_moment w.config.skew_ms seen at_time) (suc index) told.out.answer

      same_world : (after_client (with_call w index at_time c) index at_time told).world ≡ (happens w (event.Call client c now) choice).world
      same_world = sym (ap (λ (z : Happened). z.world) x.is)

      called_whole : IsWholeWorld config (happens w (event.Call client c now) choice).world
      called_whole =
          asked_left config servers clients w r (happens w the_call choice).world (master_left w the_call choice no_master)
          (λ l ss asked b.
          let on = stands_beside config servers clients w r kept the_call choice clocks no_master known index at_time s x.at up ss b.0 b.2 _ told
          (any_call_stands config servers clients w r kept the_call choice clocks no_master known index at_time s x.at up ss b.0 b.2 (subst (λ (q : Logged). IsAskedFor w.sent q ss) (sym b.1) asked) none some c)
          (call_asks s ((numbered_reached config servers clients w r).each index s x.at).named at_time c choice)
          (ap (λ (xs : List Visible). answered_trace (suc index) told.out.answer xs) once.0 ∙ fields.0 ∙ ap (λ (z : WorldState). z.observer.trace) same_world) (once.1 ∙ fields.1 ∙ ap (λ (z : WorldState). z.observer.greatest) same_world)
          (ap (λ (z : WorldState). z.sent) same_world) (ap (λ (z : WorldState). z.clients) same_world) in
          (on.0, on.1 ∙ b.1, on.2)) h

    pub call_whole : IsWholeWorld config (happens w (event.Call client c now) choice).world
    call_whole = elim (call_cases) [ inl is ↦ subst (λ (z : Happened). IsWholeWorld config z.world) (sym is) h | inr x ↦ called_whole x ]

pub calls_keep_worlds_whole : CallsKeepWorldsWhole
calls_keep_worlds_whole config some servers clients w r kept client c now choice clocks known h = call_whole config some servers clients w r kept client c now choice clocks known h

-- each event of a client

suc_of : {X : Type 0} (xs : List X) (n : ℕ) (x : X) → numbered_from_1 xs n ≡ Some x → n ≡ suc (n - 1)
suc_of xs zero x is = none_some x is
suc_of xs (suc n) x is = omega arith

module _ (config : Config) (servers clients : ℕ) (w : WorldState) (r : IsReached config servers clients w) (kept : IsTrue (is_kept w)) (e : Event) (choice : Choice) (clocks : IsTrue (happens w e choice).world.observer.are_clocks_kept)
    (known : AreOpenCallsKnown config w) (long : AreTooLong config w (happens w e choice).world e) (h : IsWholeWorld config w)
  where
    abbrev Whole : Type 0
    Whole = IsWholeWorld config (happens w e choice).world

    module _ (index moment : ℕ) (s : ClientState) (i : NodeInput) (at : element_at w.clients index ≡ Some s) (given : GivesClient w e index moment i) where
      by_stage : (x : CurrentCall) → s.current ≡ Some x → (st : Stage) → x.stage ≡ st → Whole
      by_stage x is AskedNames staged = name_whole config servers clients w r kept e choice clocks index moment s i at given known h x is staged
      by_stage x is other staged =
          client_file_steps_keep_worlds_whole config servers clients w r kept e choice clocks index moment s i at given x is (subst (λ (st : Stage). IsOfFile st) (sym staged) tt) known long h

      by_call : (o : Option CurrentCall) → s.current ≡ o → Whole
      by_call None is = idle_whole config servers clients w r kept e choice clocks index moment s i at given known h is
      by_call (Some x) is = by_stage x is x.stage refl

      pub step_whole : Whole
      step_whole = by_call s.current refl

module _ (config : Config) (w : WorldState) (choice : Choice) (h : IsWholeWorld config w) where
  abbrev Kept : Happened → Type 0
  Kept z = IsWholeWorld config z.world

  at_moment_kept : (moment : ℕ) (z : Happened) → Kept z → Kept (at_moment w moment z)
  at_moment_kept moment z g = on_cond Kept (nat_le moment moment_limit) z (nothing_happens w) (λ _. g) (λ _. h)

  moves_none : (cl : ClientId) (moment : ℕ) (i : NodeInput) → numbered_from_1 w.clients cl.0 ≡ None → Kept (moves w (node.Client cl) moment i choice)
  moves_none cl moment i none = subst (λ (o : Option ClientState). Kept (client_moves w (cl.0 - 1) moment i choice o)) (sym none) h

client_of : (cl : ClientId) (n : ℕ) → cl.0 ≡ n → node.Client cl ≡ the_client n
client_of cl n is = ap (λ (k : ℕ). the_client k) is

module _ (config : Config) (some : 1 ≤ config.chunk) (servers clients : ℕ) (w : WorldState) (r : IsReached config servers clients w) (kept : IsTrue (is_kept w)) (choice : Choice) (known : AreOpenCallsKnown config w) (h : IsWholeWorld config w) where
  abbrev Asks : Event → Type 0
  Asks e = IsTrue (happens w e choice).world.observer.are_clocks_kept → AreTooLong config w (happens w e choice).world e → IsWholeWorld config (happens w e choice).world

  called : (client : ClientId) (c : Call) (now : Moment) → Asks (event.Call client c now)
  called client c now clocks long = call_whole config some servers clients w r kept client c now choice clocks known h

  ticked : (cl : ClientId) (now : Moment) (o : Option ClientState) → numbered_from_1 w.clients cl.0 ≡ o → Asks (event.Tick (node.Client cl) now)
  ticked cl now None there clocks long = at_moment_kept config w choice h now.0 (moves w (node.Client cl) now.0 input.Tick choice) (moves_none config w choice h cl now.0 input.Tick there)
  ticked cl now (Some s) there clocks long =
      step_whole config servers clients w r kept (event.Tick (node.Client cl) now) choice clocks known long h (cl.0 - 1) now.0 s input.Tick at given
    where
      at : element_at w.clients (cl.0 - 1) ≡ Some s
      at = element_numbered w.clients cl.0 s there

      given : GivesClient w (event.Tick (node.Client cl) now) (cl.0 - 1) now.0 input.Tick
      given = (client_of cl (suc (cl.0 - 1)) (suc_of w.clients cl.0 s there), refl, refl)

  delivers : (number : ℕ) (now : Moment) (m : Message) → numbered_from_1 w.sent number ≡ Some m → (cl : ClientId) → m.receiver ≡ node.Client cl → (o : Option ClientState) → numbered_from_1 w.clients cl.0 ≡ o → Asks (event.Deliver number now)
  delivers number now m sent cl to None there clocks long =
      at_moment_kept config w choice h now.0 (delivered w now.0 choice (numbered_from_1 w.sent number))
      (subst (λ (o : Option Message). Kept config w choice h (delivered w now.0 choice o)) (sym sent)
      (subst (λ (n : Node). Kept config w choice h (moves w n now.0 (input.Deliver m) choice)) (sym to) (moves_none config w choice h cl now.0 (input.Deliver m) there)))
  delivers number now m sent cl to (Some s) there clocks long =
      step_whole config servers clients w r kept (event.Deliver number now) choice clocks known long h (cl.0 - 1) now.0 s (input.Deliver m) at given
    where
      at : element_at w.clients (cl.0 - 1) ≡ Some s
      at = element_numbered w.clients cl.0 s there

      given : GivesClient w (event.Deliver number now) (cl.0 - 1) now.0 (input.Deliver m)
      given = (m, sent, to ∙ client_of cl (suc (cl.0 - 1)) (suc_of w.clients cl.0 s there), refl, refl)

  by_receiver : (number : ℕ) (now : Moment) (m : Message) → numbered_from_1 w.sent number ≡ Some m → (n : Node) → m.receiver ≡ n → IsClient n → Asks (event.Deliver number now)
  by_receiver number now m sent (node.Client cl) to is = delivers number now m sent cl to (numbered_from_1 w.clients cl.0) refl
  by_receiver number now m sent other to is = absurd is

  by_node : (n : Node) (now : Moment) → IsClient n → Asks (event.Tick n now)
  by_node (node.Client cl) now is = ticked cl now (numbered_from_1 w.clients cl.0) refl
  by_node other now is = absurd is

  restarted : (n : Node) (now : Moment) → IsClient n → Asks (event.Restart n now)
  restarted (node.Client cl) now is clocks long = at_moment_kept config w choice h now.0 (nothing_happens w) h
  restarted other now is clocks long = absurd is

  pub clients_event : (e : Event) → IsClientsEvent w e → Asks e
  clients_event (event.Call client c now) is = called client c now
  clients_event (event.Deliver number now) is = by_receiver number now is.0 is.1 is.0.receiver refl is.2
  clients_event (event.Tick n now) is = by_node n now is
  clients_event (event.Restart n now) is = restarted n now is
  clients_event other is = absurd is

pub clients_events_keep_worlds_whole : ClientsEventsKeepWorldsWhole
clients_events_keep_worlds_whole config some servers clients w r kept e choice clocks is known long h = clients_event config some servers clients w r kept choice known h e is clocks long
