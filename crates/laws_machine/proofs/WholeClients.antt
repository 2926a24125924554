-- A client's step for its call on a file, and a client that stops, keep a whole machine beside the world.
use Rattle.std.proofs.Common.{◌≡◌, ◌⊎◌, ℕ, zero, suc, ◌-◌, Bool, true, false, max, List, [], ◌∷◌, ◌++◌, length, Option, Some, None, refl, sym, ap, subst, ◌∙◌, inl, inr, arith}
use Rattle.std.specs.Prelude.{nat_le, IsTrue}
use Rattle.std.specs.List.{list_all}
use Rattle.std.proofs.lemmas.Bool.{true≢false}
use Rattle.std.proofs.lemmas.List.{append-nil}
use Rattle.std.proofs.Math.Nat.{le-max_left, le-max_right}
use Rattle.gfs_types.specs.declared.config.Config.{Config}
use Rattle.gfs_types.specs.declared.ids.Node.{Node}
use Rattle.gfs_types.specs.declared.ids.Node.TheVariants as node
use Rattle.gfs_types.specs.declared.refusal.Refusal.{Refusal}
use Rattle.gfs_types.specs.declared.refusal.Refusal.TheVariants.{TooLong}
use Rattle.gfs_types.specs.declared.answer.Answer.{Answer}
use Rattle.messages.specs.declared.event.Event.{Event}
use Rattle.messages.specs.declared.event.Event.TheVariants as event
use Rattle.messages.specs.declared.event.NodeInput.{NodeInput}
use Rattle.messages.specs.declared.event.NodeInput.TheVariants as input
use Rattle.messages.specs.declared.message.Body.{Body}
use Rattle.messages.specs.declared.message.Body.TheVariants as body
use Rattle.messages.specs.declared.message.Message.{Message}
use Rattle.relaxed_file.specs.Machine.{Machine}
use Rattle.relaxed_file.specs.Run.{Action, IsLawful, Visible, after_all, IsReached, IsRunTo, LeadsTo}
use Rattle.relaxed_file.proofs.Reached.{leads_on}
use Rattle.machine_names.specs.NameProjections.{AreNamesOf}
use Rattle.client_state.specs.declared.call.CurrentCall.{CurrentCall}
use Rattle.client_state.specs.declared.call.Stage.{Stage}
use Rattle.client_state.specs.declared.call.Stage.TheVariants.{AskedNames}
use Rattle.protocol.specs.Tables.{moment_limit, element_at, with_at}
use Rattle.protocol.specs.Choice.{Choice, Ending, Goes, Lost, Stops}
use Rattle.protocol.specs.Seen.{Taken, no_step, down_output}
use Rattle.protocol.specs.Sending.{the_client}
use Rattle.protocol.specs.Observer.{Observer, observed_moment, observed_answer}
use Rattle.protocol.specs.Master.{PendingSnapshot}
use Rattle.protocol.specs.Client.{ClientState, ClientDoing, stopped_client}
use Rattle.protocol.specs.ClientStep.{client_goes, client_ends, client_step, may_step}
use Rattle.protocol.specs.World as world
use Rattle.protocol.specs.World.{WorldState, Happened, nothing_happens, numbered_from_1, stamped, after_client, client_moves, moves, delivered, at_moment, happens, is_kept}
use Rattle.laws_base.proofs.Steps.{on_cond, none_some, same_some, same_or_not}
use Rattle.laws_base.proofs.RisingOrders.{set_cases, element_numbered}
use Rattle.laws_base.specs.FileCalls.{IsOfFile}
use Rattle.laws_base.proofs.FileSteps.{file_calls_go_on}
use Rattle.laws_names.specs.Alike.{Requests}
use Rattle.laws_names.specs.FollowedClients.{IsBesideAt, IsBesideCall, answer_shown}
use Rattle.laws_names.specs.Beside.{WasSent, IsNamesBeside, IsClientBeside, AreClientsBeside, is_asked_names, answered_trace}
use Rattle.laws_names.proofs.BesideClientsBeside.{passed_trace, all_on}
use Rattle.laws_names.proofs.Clients.{stays_at, file_goes_at}
use Rattle.laws_names.proofs.Masters.{passed_last}
use Rattle.laws_machine.specs.ChunksAlike.{ChunkSides, moved}
use Rattle.laws_machine.specs.FileClients.{IsFileClient, IsSaid, IsFollowed}
use Rattle.laws_machine.specs.FileClientsStay.{IsFirm, IsFirmInput}
use Rattle.laws_machine.specs.ServerSteps.{is_of_entries}
use Rattle.laws_machine.specs.Tries.{AddsNumberedTries}
use Rattle.laws_machine.specs.ChunksBeside.{AreChunksBeside, IsMastersEvent}
use Rattle.laws_machine.specs.WholeWorlds.{AreWordsSo, AreFileClients, IsBeside, IsWholeWorld}
use Rattle.laws_machine.specs.WholeClients.{GivesClient, AreOwnWordsSo, AreClientsTrue, FileStepsKeepWorldsWhole}
use Rattle.laws_machine.proofs.ChunksBeside.{master_left, other_events_keep_chunks_beside, same_files_keep_chunks_beside}
use Rattle.laws_machine.proofs.TriesRise.{same_files_add}
use Rattle.laws_machine.proofs.ClientFiles.{clients_files_are_open}
use Rattle.laws_machine.proofs.FileClientsStay.{other_clients_stay}
use Rattle.laws_machine.proofs.FileSteps.{file_steps_are_followed}
use Rattle.laws_machine.proofs.WholeMoves.{GoesQuietly, quiet_run, entries_quiet, run_goes, run_goes_unseen, PassesBoth, both_pass}
use Rattle.laws_machine.proofs.WholeWorlds.{files_stay, words_stay, more_words, on_left}
use Rattle.laws_machine.proofs.ToldShapes.{shapes_on}
use Rattle.laws_machine.proofs.RoundSizes.{sizes_beside}

-- a word stays so, or a range is too long

firm_body : (b : Body) → IsFirm b ⊎ (IsFirm b → ⊥)
firm_body (body.Refused number refusal) = by_refusal refusal
  where
    by_refusal : (x : Refusal) → IsFirm (body.Refused number x) ⊎ (IsFirm (body.Refused number x) → ⊥)
    by_refusal TooLong = inr (λ firm. firm)
    by_refusal other = inl tt
firm_body other = inl tt

pub firm_or_not : (i : NodeInput) → IsFirmInput i ⊎ (IsFirmInput i → ⊥)
firm_or_not input.Tick = inl tt
firm_or_not (input.Deliver y) = firm_body y.body

-- the event is a client's

abbrev IsClientsNode : Node → Type 0
IsClientsNode (node.Client c) = Unit {0}
IsClientsNode other = ⊥

pub not_masters : (w : WorldState) (e : Event) (index moment : ℕ) (i : NodeInput) → GivesClient w e index moment i → IsMastersEvent w e → ⊥
not_masters w (event.Deliver number now) index moment i given masters =
    let same : given.0 ≡ masters.0 = same_some given.0 masters.0 (sym given.1 ∙ masters.1) in
    subst IsClientsNode (sym given.2 ∙ ap (λ (m : Message). m.receiver) same ∙ masters.2) tt
not_masters w (event.Tick n now) index moment i given masters = subst IsClientsNode (sym given.0 ∙ masters) tt
not_masters w other index moment i given masters = absurd given

module _ (w : WorldState) (choice : Choice) (index moment : ℕ) (s : ClientState) (i : NodeInput) (at : element_at w.clients index ≡ Some s) (P : Happened → Type 0) (none : P (nothing_happens w))
    (some : IsTrue s.up → P (after_client w index moment (client_step s moment i choice)))
  where
    client_case : P (moves w (the_client (suc index)) moment i choice)
    client_case = subst (λ (q : ℕ). P (client_moves w q moment i choice (element_at w.clients index))) (let e : index ≡ suc index - 1 = omega arith in e)
        (subst (λ (o : Option ClientState). P (client_moves w index moment i choice o)) (sym at) (on_cond P s.up (after_client w index moment (client_step s moment i choice)) (nothing_happens w) some (λ _. none)))

    moment_case : (h : Happened) → P h → P (at_moment w moment h)
    moment_case h g = on_cond P (nat_le moment moment_limit) h (nothing_happens w) (λ _. g) (λ _. none)

    pub event_case : (e : Event) → GivesClient w e index moment i → P (happens w e choice)
    event_case (event.Deliver number now) given =
        subst (λ (t : ℕ). P (at_moment w t (delivered w t choice (numbered_from_1 w.sent number)))) (sym given.4)
        (moment_case (delivered w moment choice (numbered_from_1 w.sent number))
        (subst (λ (o : Option Message). P (delivered w moment choice o)) (sym given.1)
        (subst (λ (n : Node). P (moves w n moment (input.Deliver given.0) choice)) (sym given.2)
        (subst (λ (j : NodeInput). P (moves w (the_client (suc index)) moment j choice)) given.3 client_case))))
    event_case (event.Tick n now) given =
        subst (λ (t : ℕ). P (at_moment w t (moves w n t input.Tick choice))) (sym given.2)
        (moment_case (moves w n moment input.Tick choice)
        (subst (λ (k : Node). P (moves w k moment input.Tick choice)) (sym given.0)
        (subst (λ (j : NodeInput). P (moves w (the_client (suc index)) moment j choice)) given.1 client_case)))
    event_case other given = absurd given

abbrev message_in : NodeInput → Message → Message
message_in (input.Deliver y) z = y
message_in input.Tick z = z

abbrev IsTickIn : NodeInput → Type 0
IsTickIn input.Tick = Unit {0}
IsTickIn other = ⊥

pub came : (w : WorldState) (e : Event) (index moment : ℕ) (i : NodeInput) → GivesClient w e index moment i → (y : Message) → i ≡ input.Deliver y → WasSent w.sent y × (y.receiver ≡ the_client (suc index))
came w (event.Deliver number now) index moment i given y is =
    let same : given.0 ≡ y = ap (λ (j : NodeInput). message_in j y) (sym given.3 ∙ is) in
    subst (λ (z : Message). WasSent w.sent z × (z.receiver ≡ the_client (suc index))) same ((number - 1, element_numbered w.sent number given.0 given.1), given.2)
came w (event.Tick n now) index moment i given y is = absurd (subst IsTickIn (sym given.1 ∙ is) tt)
came w other index moment i given y is = absurd given

-- one client comes to this, and the others stay

put_at : (t : ClientState) (xs : List ClientState) (index : ℕ) (s : ClientState) → element_at (with_at xs index t) index ≡ Some s → t ≡ s
put_at t [] index s e = none_some s e
put_at t (x ∷ xs) zero s e = same_some t s e
put_at t (x ∷ xs) (suc index) s e = put_at t xs index s e

pub put_all : (P : ℕ → ClientState → Type 0) (clients : List ClientState) (index : ℕ) (t : ClientState) → P index t → ((other : ℕ) (s : ClientState) → (other ≡ index → ⊥) → element_at clients other ≡ Some s → P other s)
    → (other : ℕ) (s : ClientState) → element_at (with_at clients index t) other ≡ Some s → P other s
put_all P clients index t own rest other s is = elim (same_or_not other index) [
  | inl same ↦
      subst (λ (q : ℕ). P q s) (sym same) (subst (λ (z : ClientState). P index z) (put_at t clients index s (subst (λ (q : ℕ). element_at (with_at clients index t) q ≡ Some s) same is)) own)
  | inr apart ↦ elim (set_cases clients index t other s is) [
    | inl both ↦ absurd (apart both.0)
    | inr there ↦ rest other s apart there
  ]
]

pub shown_trace : (client : ℕ) (a : Option Answer) (trace : List Visible) → trace ++ answer_shown client a ≡ answered_trace client a trace
shown_trace client None trace = append-nil trace
shown_trace client (Some reply) trace = refl

pub answered_fields : (o : Observer) (client : ℕ) (a : Option Answer) → (answered_trace client a o.trace ≡ (observed_answer o client a).trace) × (o.greatest ≡ (observed_answer o client a).greatest)
answered_fields o client None = (refl, refl)
answered_fields o client (Some reply) = (refl, refl)

pub of_file : (st : Stage) → IsOfFile st → is_asked_names st ≡ false
of_file AskedNames of = absurd of
of_file other of = refl

pub idle_at : (m : Machine) (requests : Requests) (client : ℕ) (x : CurrentCall) (st : Stage) → IsOfFile st → IsBesideAt m requests client x st → (m.clients client).open_call ≡ None
idle_at m requests client x AskedNames of h = absurd of
idle_at m requests client x other of h = h

-- the machine follows the step

module _ (config : Config) (servers clients : ℕ) (w : WorldState) (r : world.IsReached config servers clients w) (kept : IsTrue (is_kept w)) (e : Event) (choice : Choice) (clocks : IsTrue (happens w e choice).world.observer.are_clocks_kept)
    (index moment : ℕ) (s : ClientState) (i : NodeInput) (at : element_at w.clients index ≡ Some s) (given : GivesClient w e index moment i) (x : CurrentCall) (is : s.current ≡ Some x) (of : IsOfFile x.stage) (up : IsTrue s.up)
    (asks : AreClientsTrue config w (happens w e choice).world index moment s i) (ss : List PendingSnapshot) (k : ChunkSides) (h : IsBeside config w ss k)
  where
    abbrev v : WorldState
    v = (happens w e choice).world

    abbrev client : ℕ
    client = suc index

    abbrev trace : List Visible
    trace = passed_trace w.observer.greatest moment w.observer.trace

    abbrev greatest : ℕ
    greatest = max w.observer.greatest moment

    abbrev number : ℕ
    number = suc (length w.sent)

    goes : (actions : List Action) × IsTrue (list_all is_of_entries actions) × IsLawful k.machine actions × AreChunksBeside config v (moved k actions k.log k.gone v.observer.orders)
        × AddsNumberedTries w v k (after_all k.machine actions)
    goes = other_events_keep_chunks_beside config servers clients w r kept e choice clocks (not_masters w e index moment i given) k (h.run.0, h.run.1, h.run.3) h.chunks h.sized (asks.numbers ss k h)

    abbrev placed : ChunkSides
    placed = moved k goes.0 k.log k.gone v.observer.orders

    before : IsReached config k.machine
    before = (h.run.0, h.run.1, h.run.3)

    one : GoesQuietly k.machine placed.machine goes.0
    one = quiet_run config k.machine goes.0 before goes.2 (entries_quiet goes.0 goes.1)

    files_placed : AreFileClients w.clients placed.machine
    files_placed = files_stay k.machine placed.machine w.clients one.stays h.files

    said_placed : AreWordsSo w.sent w.clients placed.machine
    said_placed = words_stay k.machine placed.machine w.clients w.sent one.stays h.files h.said

    run_placed : IsRunTo config w.observer.trace placed.machine
    run_placed = run_goes_unseen config w.observer.trace k.machine goes.0 h.run goes.2 one.seen

    p : PassesBoth config w.observer.trace w.observer.greatest w.sent k.log ss placed.machine h.names h.requests h.named (one.names h.names h.same) run_placed trace greatest
    p = both_pass config w.observer.trace w.observer.greatest w.sent k.log ss placed.machine h.names h.requests h.named (one.names h.names h.same) run_placed moment

    abbrev passed : ChunkSides
    passed = record placed { machine = p.whole }

    chunks_passed : AreChunksBeside config v passed
    chunks_passed = same_files_keep_chunks_beside config v placed p.whole goes.3 p.settings p.files

    files_passed : AreFileClients w.clients p.whole
    files_passed = files_stay placed.machine p.whole w.clients p.stays files_placed

    said_passed : AreWordsSo w.sent w.clients p.whole
    said_passed = words_stay placed.machine p.whole w.clients w.sent p.stays files_placed said_placed

    asking_passed : AreClientsBeside config trace greatest w.clients p.names h.requests
    asking_passed =
        all_on config w.observer.trace trace w.observer.greatest greatest w.clients h.names p.names h.requests p.left (λ q. passed_last w.observer.trace w.observer.greatest moment q) (le-max_left w.observer.greatest moment) h.asking

    reached : IsReached config p.whole
    reached = (p.run.0, p.run.1, p.run.3)

    leads : LeadsTo k.machine p.whole
    leads = leads_on k.machine placed.machine p.whole (goes.0, goes.2, refl) p.leads

    adds_passed : AddsNumberedTries w v k p.whole
    adds_passed = same_files_add w v k placed.machine p.whole p.files goes.4

    -- what stands once the client came to this
    record IsBesideAfter (t : Taken ClientState) : Type 0 where
      pub machine : Machine
      pub named : IsNamesBeside config (answered_trace client t.out.answer trace) greatest (w.sent ++ stamped number t.out.sent) k.log ss p.names h.requests
      pub asking : AreClientsBeside config (answered_trace client t.out.answer trace) greatest (with_at w.clients index t.state) p.names h.requests
      pub run : IsRunTo config (answered_trace client t.out.answer trace) machine
      pub same : AreNamesOf machine p.names
      pub chunks : AreChunksBeside config v (record placed { machine = machine })
      pub files : AreFileClients (with_at w.clients index t.state) machine
      pub said : AreWordsSo w.sent (with_at w.clients index t.state) machine
      pub leads : LeadsTo k.machine machine
      pub adds : AddsNumberedTries w v k machine

    stands_still : (t : ClientState) (down : Bool) → (IsTrue t.up → IsClientBeside config trace greatest t p.names h.requests client) → (IsTrue t.up → IsFileClient p.whole client t) → (IsTrue t.up → AreOwnWordsSo w.sent p.whole index t)
        → IsBesideAfter (record { state = t; out = record { sent = []; answer = None; down = down }; seen = [] })
    stands_still t down beside files said =
        let names = stays_at config trace greatest w.clients w.sent k.log ss p.names h.requests p.named asking_passed number index t beside in
        record {
          machine = p.whole;
          named = names.0;
          asking = names.1;
          run = p.run;
          same = p.same;
          chunks = chunks_passed;
          files = put_all (λ other z. IsTrue z.up → IsFileClient p.whole (suc other) z) w.clients index t files (λ other z apart there. files_passed other z there);
          said = put_all (λ other z. IsTrue z.up → AreOwnWordsSo w.sent p.whole other z) w.clients index t said (λ other z apart there. said_passed other z there);
          leads = leads;
          adds = adds_passed;
        }

    heard : IsSaid p.whole client s i
    heard = elim (firm_or_not i) [
      | inl firm ↦ by_input i refl firm
      | inr loose ↦ asks.heard up ss k passed h leads chunks_passed p.run files_passed adds_passed loose
    ]
      where
        by_input : (j : NodeInput) → i ≡ j → IsFirmInput j → IsSaid p.whole client s j
        by_input input.Tick same firm = tt
        by_input (input.Deliver y) same firm = let was = came w e index moment i given y same in said_passed index s at up y was.0 was.1 firm

    abbrev d : ClientDoing
    d = client_goes s moment i

    follows : (f : IsFollowed p.whole client d) × AreOwnWordsSo w.sent (after_all p.whole f.actions) index d.client
    follows =
        asks.waits up ss k p.whole h leads files_passed said_passed
        (file_steps_are_followed p.whole client s x (files_passed index s at up) is of ((clients_files_are_open config servers clients w r index s at).call x is of) moment i heard)

    abbrev f : IsFollowed p.whole client d
    f = follows.0

    others : (other : ℕ) (z : ClientState) → (other ≡ index → ⊥) → IsFileClient p.whole (suc other) z
        → IsFileClient (after_all p.whole f.actions) (suc other) z × ((j : NodeInput) → IsFirmInput j → IsSaid p.whole (suc other) z j → IsSaid (after_all p.whole f.actions) (suc other) z j)
    others other z apart g = other_clients_stay config p.whole reached client d f (suc other) (λ same. apart (omega (arith, same))) z g

    own : IsClientBeside config trace greatest s p.names h.requests client
    own = asking_passed index s at up

    idle : (p.names.clients client).open_call ≡ None
    idle = idle_at p.names h.requests client x x.stage of (subst (λ (o : Option CurrentCall). IsBesideCall p.names h.requests client o) is (own.beside).call)

    stands_on : IsBesideAfter (client_ends s d Goes)
    stands_on =
        let names = file_goes_at config trace greatest w.clients w.sent k.log ss p.names h.requests p.named asking_passed number index s moment d own (le-max_right w.observer.greatest moment) (file_calls_go_on s moment i x is of) idle
        (own.naming x is ∙ of_file x.stage of) in
        record {
          machine = after_all p.whole f.actions;
          named = names.0;
          asking = names.1;
          run = subst (λ (t : List Visible). IsRunTo config t (after_all p.whole f.actions)) (ap (λ (vs : List Visible). trace ++ vs) f.seen ∙ shown_trace client d.answer trace) (run_goes config trace p.whole f.actions p.run f.allowed);
          same = f.names p.names p.same;
          chunks = same_files_keep_chunks_beside config v passed (after_all p.whole f.actions) chunks_passed f.elsewhere.config f.elsewhere.files;
          files = put_all (λ other z. IsTrue z.up → IsFileClient (after_all p.whole f.actions) (suc other) z) w.clients index d.client (λ on. f.alike)
              (λ other z apart there on. (others other z apart (files_passed other z there on)).0);
          said = put_all (λ other z. IsTrue z.up → AreOwnWordsSo w.sent (after_all p.whole f.actions) other z) w.clients index d.client (λ on. follows.1)
              (λ other z apart there on y was to firm. (others other z apart (files_passed other z there on)).1 (input.Deliver y) firm (said_passed other z there on y was to firm));
          leads = leads_on k.machine p.whole (after_all p.whole f.actions) leads (f.actions, f.allowed, refl);
          adds = same_files_add w v k p.whole (after_all p.whole f.actions) f.elsewhere.files adds_passed;
        }

    stands_down : IsBesideAfter (record { state = stopped_client s; out = down_output; seen = [] })
    stands_down = stands_still (stopped_client s) true (λ on. absurd (true≢false (sym on))) (λ on. absurd (true≢false (sym on))) (λ on. absurd (true≢false (sym on)))

    by_ending : (end : Ending) → IsBesideAfter (client_ends s d end)
    by_ending Goes = stands_on
    by_ending Lost = stands_down
    by_ending (Stops made) = stands_down

    stands : IsBesideAfter (client_step s moment i choice)
    stands =
        on_cond IsBesideAfter (may_step s) (client_ends s d choice.ending) (no_step s) (λ _. by_ending choice.ending)
        (λ _. stands_still s false (λ on. own) (λ on. files_passed index s at up) (λ on. said_passed index s at up))

    abbrev t : Taken ClientState
    t = client_step s moment i choice

    abbrev u : WorldState
    u = (after_client w index moment t).world

    module _ (comes : happens w e choice ≡ after_client w index moment t) where
      same_world : v ≡ u
      same_world = ap (λ (z : Happened). z.world) comes

      abbrev Parts : List Visible → ℕ → List Message → List ClientState → Type 0
      Parts seen late sent cs =
          IsNamesBeside config seen late sent k.log ss p.names h.requests × AreClientsBeside config seen late cs p.names h.requests × IsRunTo config seen stands.machine × AreFileClients cs stands.machine × AreWordsSo sent cs stands.machine

      new_words : AreWordsSo (stamped number t.out.sent) (with_at w.clients index t.state) stands.machine
      new_words =
          subst (λ (cs : List ClientState). AreWordsSo (stamped number t.out.sent) cs stands.machine) (ap (λ (z : WorldState). z.clients) same_world)
          (asks.says (stamped number t.out.sent) (ap (λ (z : WorldState). z.sent) same_world) stands.machine)

      here : Parts (answered_trace client t.out.answer trace) greatest (w.sent ++ stamped number t.out.sent) (with_at w.clients index t.state)
      here = (stands.named, stands.asking, stands.run, stands.files, more_words stands.machine (with_at w.clients index t.state) w.sent (stamped number t.out.sent) stands.said new_words)

      there : Parts u.observer.trace u.observer.greatest u.sent u.clients
      there =
          let fields = answered_fields (observed_moment w.config.skew_ms w.observer moment) client t.out.answer in
          subst (λ (g : ℕ). Parts u.observer.trace g u.sent u.clients) fields.1 (subst (λ (seen : List Visible). Parts seen greatest u.sent u.clients) fields.0 here)

      parts : Parts v.observer.trace v.observer.greatest v.sent v.clients
      parts = subst (λ (z : WorldState). Parts z.observer.trace z.observer.greatest z.sent z.clients) (sym same_world) there

      keeps : (j : ChunkSides) × (j.log ≡ k.log) × IsBeside config v ss j
      keeps = (
        record placed { machine = stands.machine },
        refl,
        record {
          names = p.names;
          requests = h.requests;
          named = parts.0;
          asking = parts.1;
          run = parts.2;
          same = stands.same;
          below = h.below;
          chunks = stands.chunks;
          files = parts.3;
          said = parts.4;
          requests_are = asks.requests ss k stands.machine h stands.leads parts.2 parts.3 (inr stands.adds);
          shapes = shapes_on config servers clients w r ss k h e choice clocks stands.machine stands.leads;
          sized = sizes_beside config servers clients w r e choice clocks ss k h (not_masters w e index moment i given) v.observer.orders stands.machine stands.leads stands.chunks;
        },
      )

abbrev Cases : WorldState → ClientState → Happened → Happened → Type 0
Cases w s after_it z = (z ≡ nothing_happens w) ⊎ (IsTrue s.up × (z ≡ after_it))

pub file_steps_keep_worlds_whole : FileStepsKeepWorldsWhole
file_steps_keep_worlds_whole config servers clients w r kept e choice clocks index moment s i at given x is of asks h =
    elim (event_case w choice index moment s i at (Cases w s (after_client w index moment (client_step s moment i choice))) (inl refl) (λ up. inr (up, refl)) e given) [
      | inl none ↦ subst (λ (z : Happened). IsWholeWorld config z.world) (sym none) h
      | inr goes_on ↦
          on_left config (happens w e choice).world w (master_left w e choice (not_masters w e index moment i given))
          (λ l ss b. let on = keeps config servers clients w r kept e choice clocks index moment s i at given x is of goes_on.0 asks ss b.0 b.2 goes_on.1 in (on.0, on.1 ∙ b.1, on.2)) h
    ]
