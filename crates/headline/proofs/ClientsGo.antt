-- A client that has no call takes a step, or is called on a file: a whole machine stays beside the world.
use Rattle.gfs_types.specs.declared.answer.Answer.{Answer}
use Rattle.std.proofs.Common.{◌≡◌, ⊎_elim, ℕ, suc, ◌≤◌, Bool, true, false, max, List, [], ◌∷◌, ◌++◌, length, Option, Some, None, refl, sym, ap, subst, ◌∙◌, arith, inl, inr, filter, option_to_list}
use Rattle.std.specs.Prelude.{IsTrue, ◌==◌, not}
use Rattle.std.specs.List.{list_all, cons_option}
use Rattle.std.proofs.lemmas.Bool.{and_parts, true≢false}
use Rattle.std.proofs.Math.Nat.{le-max_left, le-max_right, max-le}
use Rattle.gfs_types.specs.declared.config.Config.{Config}
use Rattle.gfs_types.specs.declared.call.Call.{Call}
use Rattle.gfs_types.specs.declared.shape.Shape.{Shape}
use Rattle.gfs_types.specs.declared.ids.FileId.{FileId}
use Rattle.gfs_types.specs.declared.answer.Answer.TheVariants as answer
use Rattle.gfs_types.specs.declared.refusal.Refusal.TheVariants.{NoMemory}
use Rattle.messages.specs.declared.event.Event.{Event}
use Rattle.messages.specs.declared.event.NodeInput.{NodeInput}
use Rattle.messages.specs.declared.event.NodeInput.TheVariants as input
use Rattle.messages.specs.declared.message.Body.TheVariants as body
use Rattle.messages.specs.declared.message.NameReply.{NameReply}
use Rattle.messages.specs.declared.message.NameReply.TheVariants as replies
use Rattle.messages.specs.declared.message.Message.{Message}
use Rattle.relaxed_file.specs.Machine.{Machine, OpenCall, new_machine}
use Rattle.relaxed_file.specs.NameStep.{is_name_call}
use Rattle.relaxed_file.specs.Run.{Action, Invoke, IsLawful, LeadsTo, Visible, Called, after, after_all, Allows, IsReached, IsRunTo, Return, ReturnFd, Answered, visible, shown}
use Rattle.relaxed_file.proofs.Reached.{leads_on, leads_by}
use Rattle.relaxed_file.proofs.Tables.{put_same, put_other}
use Rattle.machine_names.specs.NameProjections.{AreNamesOf, IsReady}
use Rattle.machine_names.proofs.Actions.{name_actions_are_taken}
use Rattle.machine_names.specs.NameRuns.{LeadsByNames, is_name_action}
use Rattle.machine_names.specs.UnseenRuns.{IsLeft}
use Rattle.machine_names.specs.NameTraces.{LastCalls, none_called, last_calls, is_naming}
use Rattle.machine_names.proofs.Seen.{single, left_same, clock_and_settings_are_seen}
use Rattle.machine_names.proofs.Traces.{calls_grow}
use Rattle.client_state.specs.declared.call.CurrentCall.{CurrentCall}
use Rattle.client_state.specs.declared.call.Stage.TheVariants.{AskedNames}
use Rattle.protocol.specs.Sending.{client_number}
use Rattle.protocol.specs.Tables.{element_at, with_at}
use Rattle.protocol.specs.Choice.{Choice, Ending, Goes, Lost, Stops}
use Rattle.protocol.specs.Seen.{Taken, no_step, down_output}
use Rattle.protocol.specs.MasterSnapshots.{first_is_true}
use Rattle.protocol.specs.Master.{PendingSnapshot}
use Rattle.protocol.specs.Client.{ClientState, ClientDoing, client_begins, stopped_client, answers}
use Rattle.protocol.specs.ClientStep.{client_at, client_does, client_goes, client_call_goes, client_ends, client_step, client_call, may_step}
use Rattle.protocol.specs.World as world
use Rattle.protocol.specs.World.{WorldState, happens, stamped, is_kept}
use Rattle.laws_base.proofs.Steps.{on_cond, none_some, same_some, same_or_not}
use Rattle.laws_base.proofs.Entries.{AllOf}
use Rattle.laws_base.specs.FileCalls.{IsFileStep, IsNameStep}
use Rattle.laws_base.proofs.NameSteps.{name_calls_ask_again}
use Rattle.laws_base.proofs.FileSteps.{file_calls_begin}
use Rattle.laws_names.specs.Alike.{Requests, AreAlike}
use Rattle.laws_names.specs.BesideClients.{IsAskedFor}
use Rattle.laws_names.specs.Followed.{IsTold}
use Rattle.laws_names.specs.NameAnswers as waits
use Rattle.laws_names.specs.NameAnswers.{Tells}
use Rattle.laws_names.specs.NameClients.{with_request, IsAnswerTo}
use Rattle.laws_names.proofs.Answers.{told_answers_are_allowed, name_calls_may_give_up}
use Rattle.laws_names.proofs.BesideClientsCalls.{name_done_at, name_down_at, name_refused_at, given}
use Rattle.laws_names.proofs.Ends.{answers_end_calls}
use Rattle.laws_names.proofs.Followed.{facts}
use Rattle.laws_names.proofs.FollowedClientsCalls.{beside_waiting}
use Rattle.laws_names.proofs.Steps.{name_calls_begin, name_calls_are_answered_as_told}
use Rattle.laws_names.specs.FollowedClients.{IsBesideAt, IsBesideCall, IsBesideClient}
use Rattle.laws_names.specs.Beside.{IsNamesBeside, is_asked_names, lasting, IsClientBeside, AreClientsBeside, answered_trace, ComesTo}
use Rattle.laws_names.proofs.BesideClientsBeside.{passed_trace, all_on, client_on, one_on, says_more}
use Rattle.laws_names.proofs.Clients.{stays_at, file_goes_at, reseen, file_called, clock_left, ends_call, IsKnownClient, here, heard, WhyOver, why_over, none_of_own, over_known}
use Rattle.laws_names.proofs.Masters.{passed_last}
use Rattle.laws_machine.specs.ChunksAlike.{ChunkSides, moved}
use Rattle.laws_machine.specs.FileClients.{IsCallAlike, IsFileClient, IsSaid, IsFollowed}
use Rattle.laws_machine.specs.FileOpenings.{IsAnsweredAs, TellsAsMade}
use Rattle.laws_machine.proofs.FileOpenings.{name_calls_keep_files, name_steps_keep_files}
use Rattle.laws_machine.specs.FileClientsStay.{IsOfOthers, IsFirmInput}
use Rattle.laws_machine.specs.FileCallsBegin.{IsBegun}
use Rattle.laws_machine.specs.ServerSteps.{is_of_entries}
use Rattle.laws_machine.specs.ChunksBeside.{AreChunksBeside, IsMastersEvent}
use Rattle.laws_machine.specs.WholeWorlds.{AreWordsSo, AreFileClients, IsBeside}
use Rattle.laws_machine.specs.WholeClients.{AreOwnWordsSo}
use Rattle.laws_machine.proofs.ChunksBeside.{other_events_keep_chunks_beside, same_files_keep_chunks_beside}
use Rattle.laws_machine.proofs.ClientFiles.{clients_files_are_open}
use Rattle.laws_machine.proofs.FileCallsBegun.{file_calls_are_begun}
use Rattle.laws_machine.proofs.FileClientsStay.{file_clients_stay, other_clients_stay}
use Rattle.laws_machine.proofs.WholeClients.{put_all, shown_trace}
use Rattle.laws_machine.proofs.WholeMoves.{GoesQuietly, quiet_run, entries_quiet, run_goes, run_goes_unseen, PassesBoth, both_pass}
use Rattle.laws_machine.proofs.WholeWorlds.{files_stay, words_stay, more_words}
use Rattle.headline.specs.ClientWords.{IsNoTelling}
use Rattle.laws_machine.specs.Tries.{AddsNumberedTries}
use Rattle.laws_machine.proofs.TriesRise.{same_files_add}
use Rattle.headline.proofs.RequestsNumbered.{events_keep_requests_numbered}
use Rattle.headline.specs.ClientsEvents.{AreOpenCallsKnown}
use Rattle.headline.proofs.ClientsFileSteps.{untold_words}
use Rattle.headline.proofs.FileWords.{later_client, words_at}
use Rattle.headline.proofs.NameReturns.{open_too, none_too, return_leaves}
use Rattle.headline.proofs.StepStages.{IsNewCall, next_step, next_call}
use Rattle.laws_machine.proofs.ToldShapes.{told_still, shapes_on}
use Rattle.laws_machine.proofs.RoundSizes.{sizes_beside}

module _ (config : Config) (servers clients : ℕ) (w : WorldState) (r : world.IsReached config servers clients w) (kept : IsTrue (is_kept w)) (e : Event) (choice : Choice) (clocks : IsTrue (happens w e choice).world.observer.are_clocks_kept)
    (others_event : IsMastersEvent w e → ⊥) (known : AreOpenCallsKnown config w) (index moment : ℕ) (s : ClientState) (at : element_at w.clients index ≡ Some s) (up : IsTrue s.up)
    (ss : List PendingSnapshot) (k : ChunkSides) (h : IsBeside config w ss k)
  where
    abbrev v : WorldState
    v = (happens w e choice).world

    abbrev client : ℕ
    client = suc index

    abbrev pub trace : List Visible
    trace = passed_trace w.observer.greatest moment w.observer.trace

    abbrev pub greatest : ℕ
    greatest = max w.observer.greatest moment

    abbrev number : ℕ
    number = suc (length w.sent)

    pub goes : (actions : List Action) × IsTrue (list_all is_of_entries actions) × IsLawful k.machine actions × AreChunksBeside config v (moved k actions k.log k.gone v.observer.orders)
        × AddsNumberedTries w v k (after_all k.machine actions)
    goes = other_events_keep_chunks_beside config servers clients w r kept e choice clocks others_event k (h.run.0, h.run.1, h.run.3) h.chunks h.sized (known ss k h)

    abbrev placed : ChunkSides
    placed = moved k goes.0 k.log k.gone v.observer.orders

    before : IsReached config k.machine
    before = (h.run.0, h.run.1, h.run.3)

    one : GoesQuietly k.machine placed.machine goes.0
    one = quiet_run config k.machine goes.0 before goes.2 (entries_quiet goes.0 goes.1)

    files_placed : AreFileClients w.clients placed.machine
    files_placed = files_stay k.machine placed.machine w.clients one.stays h.files

    said_placed : AreWordsSo w.sent w.clients placed.machine
    said_placed = words_stay k.machine placed.machine w.clients w.sent one.stays h.files h.said

    run_placed : IsRunTo config w.observer.trace placed.machine
    run_placed = run_goes_unseen config w.observer.trace k.machine goes.0 h.run goes.2 one.seen

    p : PassesBoth config w.observer.trace w.observer.greatest w.sent k.log ss placed.machine h.names h.requests h.named (one.names h.names h.same) run_placed trace greatest
    p = both_pass config w.observer.trace w.observer.greatest w.sent k.log ss placed.machine h.names h.requests h.named (one.names h.names h.same) run_placed moment

    abbrev passed : ChunkSides
    passed = record placed { machine = p.whole }

    chunks_passed : AreChunksBeside config v passed
    chunks_passed = same_files_keep_chunks_beside config v placed p.whole goes.3 p.settings p.files

    files_passed : AreFileClients w.clients p.whole
    files_passed = files_stay placed.machine p.whole w.clients p.stays files_placed

    said_passed : AreWordsSo w.sent w.clients p.whole
    said_passed = words_stay placed.machine p.whole w.clients w.sent p.stays files_placed said_placed

    asking_passed : AreClientsBeside config trace greatest w.clients p.names h.requests
    asking_passed =
        all_on config w.observer.trace trace w.observer.greatest greatest w.clients h.names p.names h.requests p.left (λ q. passed_last w.observer.trace w.observer.greatest moment q) (le-max_left w.observer.greatest moment) h.asking

    reached : IsReached config p.whole
    reached = (p.run.0, p.run.1, p.run.3)

    leads_passed : LeadsTo k.machine p.whole
    leads_passed = leads_on k.machine placed.machine p.whole (goes.0, goes.2, refl) p.leads

    adds_passed : AddsNumberedTries w v k p.whole
    adds_passed = same_files_add w v k placed.machine p.whole p.files goes.4

    early : moment ≤ greatest
    early = le-max_right w.observer.greatest moment

    own : IsClientBeside config trace greatest s p.names h.requests client
    own = asking_passed index s at up

    -- what stands once the client came to this, and this was seen
    pub record IsBesideAfter (more : List Visible) (t : Taken ClientState) : Type 0 where
      pub machine : Machine
      pub names : Machine
      pub requests : Requests
      pub named : IsNamesBeside config more greatest (w.sent ++ stamped number t.out.sent) k.log ss names requests
      pub asking : AreClientsBeside config more greatest (with_at w.clients index t.state) names requests
      pub run : IsRunTo config more machine
      pub same : AreNamesOf machine names
      pub chunks : AreChunksBeside config v (record placed { machine = machine })
      pub files : AreFileClients (with_at w.clients index t.state) machine
      pub said : AreWordsSo w.sent (with_at w.clients index t.state) machine
      pub leads : LeadsTo k.machine machine
      pub adds : AddsNumberedTries w v k machine

    -- the world is beside it then
    module _ (more : List Visible) (t : Taken ClientState) (g : IsBesideAfter more t) where
      abbrev Parts : List Visible → ℕ → List Message → List ClientState → Type 0
      Parts xs q ms cs = IsNamesBeside config xs q ms k.log ss g.names g.requests × AreClientsBeside config xs q cs g.names g.requests × IsRunTo config xs g.machine × AreFileClients cs g.machine × AreWordsSo ms cs g.machine

      pub stands_beside : AllOf (λ x. IsNoTelling x.body) t.out.sent → more ≡ v.observer.trace → greatest ≡ v.observer.greatest
          → w.sent ++ stamped number t.out.sent ≡ v.sent → with_at w.clients index t.state ≡ v.clients → (j : ChunkSides) × (j.log ≡ k.log) × IsBeside config v ss j
      stands_beside untold seen late sent all = (
        record placed { machine = g.machine },
        refl,
        record {
          names = g.names;
          requests = g.requests;
          named = parts.0;
          asking = parts.1;
          run = parts.2;
          same = g.same;
          below = h.below;
          chunks = g.chunks;
          files = parts.3;
          said = parts.4;
          requests_are = events_keep_requests_numbered config w (and_parts _ _ kept).0 e choice ss k g.machine h g.leads parts.2 parts.3 (inr g.adds);
          shapes = shapes_on config servers clients w r ss k h e choice clocks g.machine g.leads;
          sized = sizes_beside config servers clients w r e choice clocks ss k h others_event v.observer.orders g.machine g.leads g.chunks;
        },
      )
        where
          first : Parts more greatest (w.sent ++ stamped number t.out.sent) (with_at w.clients index t.state)
          first = (
            g.named,
            g.asking,
            g.run,
            g.files,
            more_words g.machine (with_at w.clients index t.state) w.sent (stamped number t.out.sent) g.said (untold_words t.out.sent number (with_at w.clients index t.state) g.machine untold),
          )

          parts : Parts v.observer.trace v.observer.greatest v.sent v.clients
          parts =
              subst (λ (cs : List ClientState). Parts v.observer.trace v.observer.greatest v.sent cs) all
              (subst (λ (ms : List Message). Parts v.observer.trace v.observer.greatest ms (with_at w.clients index t.state)) sent
              (subst (λ (q : ℕ). Parts v.observer.trace q (w.sent ++ stamped number t.out.sent) (with_at w.clients index t.state)) late
              (subst (λ (xs : List Visible). Parts xs greatest (w.sent ++ stamped number t.out.sent) (with_at w.clients index t.state)) seen first)))

    -- a step without a call

    stands_still : (t : ClientState) (down : Bool) → (IsTrue t.up → IsClientBeside config trace greatest t p.names h.requests client) → (IsTrue t.up → IsFileClient p.whole client t) → (IsTrue t.up → AreOwnWordsSo w.sent p.whole index t)
        → IsBesideAfter trace (record { state = t; out = record { sent = []; answer = None; down = down }; seen = [] })
    stands_still t down beside files said =
        let names = stays_at config trace greatest w.clients w.sent k.log ss p.names h.requests p.named asking_passed number index t beside in
        record {
          machine = p.whole;
          names = p.names;
          requests = h.requests;
          named = names.0;
          asking = names.1;
          run = p.run;
          same = p.same;
          chunks = chunks_passed;
          files = put_all (λ other z. IsTrue z.up → IsFileClient p.whole (suc other) z) w.clients index t files (λ other z apart there. files_passed other z there);
          said = put_all (λ other z. IsTrue z.up → AreOwnWordsSo w.sent p.whole other z) w.clients index t said (λ other z apart there. said_passed other z there);
          leads = leads_passed;
          adds = adds_passed;
        }

    stands_down_now : IsBesideAfter trace (record { state = stopped_client s; out = record { sent = []; answer = None; down = true }; seen = [] })
    stands_down_now = stands_still (stopped_client s) true (λ on. absurd (true≢false (sym on))) (λ on. absurd (true≢false (sym on))) (λ on. absurd (true≢false (sym on)))

    later : IsClientBeside config trace greatest (client_at s moment) p.names h.requests client
    later = record { beside = record { call = (own.beside).call; count = (own.beside).count }; naming = own.naming; settings = own.settings; now = max-le own.now early }

    module _ (none : s.current ≡ None) (i : NodeInput) where
      idle_goes : client_begins (client_at s moment) ≡ client_goes s moment i
      idle_goes = ap (λ (o : Option CurrentCall). client_does (client_begins (client_at s moment)) i o) (sym none)

      abbrev Idles : Taken ClientState → Type 0
      Idles t = IsBesideAfter (answered_trace client t.out.answer trace) t

      idle_ends : (end : Ending) → Idles (client_ends s (client_begins (client_at s moment)) end)
      idle_ends Goes = stands_still (client_at s moment) false (λ on. later) (λ on. later_client p.whole client s moment (files_passed index s at up)) (λ on x was to firm. said_passed index s at up x was to firm)
      idle_ends Lost = stands_down_now
      idle_ends (Stops changes) = stands_down_now

      pub idle_stands : Idles (client_step s moment i choice)
      idle_stands =
          on_cond Idles (may_step s) (client_ends s (client_goes s moment i) choice.ending) (no_step s)
          (λ _. subst (λ (d : ClientDoing). Idles (client_ends s d choice.ending)) idle_goes (idle_ends choice.ending))
          (λ _. stands_still s false (λ on. own) (λ on. files_passed index s at up) (λ on. said_passed index s at up))

    -- a call is made

    not_own : (other : ℕ) → (other ≡ index → ⊥) → suc other ≡ client → ⊥
    not_own other apart same = apart (omega (arith, same))

    module _ (c : Call) (allowed : Allows p.whole (Invoke client c)) where
      abbrev calling : List Visible
      calling = trace ++ Called client c ∷ []

      abbrev opened : Machine
      opened = after p.whole (Invoke client c)

      reached_opened : IsReached config opened
      reached_opened = leads_on (new_machine config) p.whole opened reached (leads_by p.whole (Invoke client c) allowed)

      run_opened : IsRunTo config calling opened
      run_opened = run_goes config trace p.whole (Invoke client c ∷ []) p.run (allowed, tt)

      others_opened : (other : ℕ) (z : ClientState) → (other ≡ index → ⊥) → IsFileClient p.whole (suc other) z
          → IsFileClient opened (suc other) z × ((j : NodeInput) → IsFirmInput j → IsSaid p.whole (suc other) z j → IsSaid opened (suc other) z j)
      others_opened other z apart g = file_clients_stay config p.whole reached (Invoke client c) allowed (suc other) (not_own other apart) z g

      leads_opened : LeadsTo k.machine opened
      leads_opened = leads_on k.machine p.whole opened leads_passed (leads_by p.whole (Invoke client c) allowed)

      adds_opened : AddsNumberedTries w v k opened
      adds_opened = same_files_add w v k p.whole opened refl adds_passed

      chunks_opened : AreChunksBeside config v (record placed { machine = opened })
      chunks_opened = same_files_keep_chunks_beside config v passed opened chunks_passed refl refl

      -- and the client goes down
      down_opened : (names : Machine) (requests : Requests) → AreNamesOf opened names → IsNamesBeside config calling greatest (w.sent ++ stamped number []) k.log ss names requests
          → AreClientsBeside config calling greatest (with_at w.clients index (stopped_client s)) names requests → IsBesideAfter calling (record { state = stopped_client s; out = down_output; seen = [] })
      down_opened names requests same named asking =
          record {
            machine = opened;
            names = names;
            requests = requests;
            named = named;
            asking = asking;
            run = run_opened;
            same = same;
            chunks = chunks_opened;
            files = put_all (λ other z. IsTrue z.up → IsFileClient opened (suc other) z) w.clients index (stopped_client s) (λ on. absurd (true≢false (sym on)))
                (λ other z apart there on. (others_opened other z apart (files_passed other z there on)).0);
            said = put_all (λ other z. IsTrue z.up → AreOwnWordsSo w.sent opened other z) w.clients index (stopped_client s) (λ on. absurd (true≢false (sym on)))
                (λ other z apart there on y was to firm. (others_opened other z apart (files_passed other z there on)).1 (input.Deliver y) firm (said_passed other z there on y was to firm));
            leads = leads_opened;
            adds = adds_opened;
          }

    -- a call on a file

    module _ (none : s.current ≡ None) (some : 1 ≤ config.chunk) (c : Call) (plain : is_name_call c ≡ false) where
      abbrev calls : List Visible
      calls = trace ++ Called client c ∷ []

      abbrev opening : Machine
      opening = after p.whole (Invoke client c)

      begun : IsBegun p.whole client c (client_call_goes s moment c) × IsBegun p.whole client c (answers (client_begins (client_at s moment)) (answer.Refused NoMemory))
      begun =
          file_calls_are_begun config p.whole reached client s (files_passed index s at up) none
          (clients_files_are_open config servers clients w r index s at).descriptors moment c plain

      allowed : Allows p.whole (Invoke client c)
      allowed = (begun.0).allowed

      idle_names : (p.names.clients client).open_call ≡ None
      idle_names = subst (λ (o : Option CurrentCall). IsBesideCall p.names h.requests client o) none (own.beside).call

      last_others : (q : ℕ) → (q ≡ client → ⊥) → last_calls none_called calls q ≡ last_calls none_called trace q
      last_others q apart = ap (λ (f : LastCalls). f q) (calls_grow none_called trace (Called client c)) ∙ put_other client (Some c) (last_calls none_called trace) q apart

      last_own : last_calls none_called calls client ≡ Some c
      last_own = ap (λ (f : LastCalls). f client) (calls_grow none_called trace (Called client c)) ∙ put_same client (Some c) (last_calls none_called trace)

      named_calling : IsNamesBeside config calls greatest w.sent k.log ss p.names h.requests
      named_calling = reseen config trace greatest w.sent k.log ss p.names h.requests p.named calls (file_called config trace greatest w.sent k.log ss p.names h.requests p.named client c plain)

      own_calling : IsClientBeside config calls greatest s p.names h.requests client
      own_calling = record { beside = own.beside; naming = λ x now. none_some x (sym none ∙ now); settings = own.settings; now = own.now }

      asking_calling : AreClientsBeside config calls greatest w.clients p.names h.requests
      asking_calling other z is on = ⊎_elim
          (λ same.
          let one_client : s ≡ z = same_some s z (sym at ∙ (ap (λ (j : ℕ). element_at w.clients j) same ∙ is)) in
          subst (λ (j : ℕ). IsClientBeside config calls greatest z p.names h.requests (suc j)) same (subst (λ (x : ClientState). IsClientBeside config calls greatest x p.names h.requests client) one_client own_calling))
          (λ apart.
          client_on p.names p.names h.requests h.requests (suc other) (left_same (p.names.clients (suc other))) refl config trace calls greatest greatest z (last_others (suc other) (λ same. apart (omega (arith, same)))) (omega arith)
          (asking_passed other z is on))
          (same_or_not index other)

      module _ (d : ClientDoing) (step : IsFileStep s moment d) (b : IsBegun p.whole client c d) (same_id : d.client.id ≡ s.id) (new : IsNewCall s d.client.current) where
        abbrev f : IsFollowed opening client d
        f = b.followed

        others : (other : ℕ) (z : ClientState) → (other ≡ index → ⊥) → IsFileClient p.whole (suc other) z
            → IsFileClient (after_all opening f.actions) (suc other) z × ((j : NodeInput) → IsFirmInput j → IsSaid p.whole (suc other) z j → IsSaid (after_all opening f.actions) (suc other) z j)
        others other z apart g =
            let one_on = others_opened c allowed other z apart g in
            let two_on = other_clients_stay config opening (reached_opened c allowed) client d f (suc other) (not_own other apart) z one_on.0 in
            (two_on.0, λ j firm said. two_on.1 j firm (one_on.1 j firm said))

        stands_on : IsBesideAfter (answered_trace client d.answer calls) (client_ends s d Goes)
        stands_on =
            let names = file_goes_at config calls greatest w.clients w.sent k.log ss p.names h.requests named_calling asking_calling number index s moment d own_calling early step idle_names (ap is_naming last_own ∙ plain) in
            record {
              machine = after_all opening f.actions;
              names = p.names;
              requests = h.requests;
              named = names.0;
              asking = names.1;
              run = subst (λ (t : List Visible). IsRunTo config t (after_all opening f.actions)) (ap (λ (vs : List Visible). calls ++ vs) f.seen ∙ shown_trace client d.answer calls)
                  (run_goes config calls opening f.actions (run_opened c allowed) f.allowed);
              same = f.names p.names (b.names p.names p.same);
              chunks = same_files_keep_chunks_beside config v (record placed { machine = opening }) (after_all opening f.actions) (chunks_opened c allowed) f.elsewhere.config f.elsewhere.files;
              files = put_all (λ other z. IsTrue z.up → IsFileClient (after_all opening f.actions) (suc other) z) w.clients index d.client (λ on. f.alike)
                  (λ other z apart there on. (others other z apart (files_passed other z there on)).0);
              said = put_all (λ other z. IsTrue z.up → AreOwnWordsSo w.sent (after_all opening f.actions) other z) w.clients index d.client
                  (λ on. words_at config servers clients w r index s at up (after_all opening f.actions) d.client same_id new)
                  (λ other z apart there on y was to firm. (others other z apart (files_passed other z there on)).1 (input.Deliver y) firm (said_passed other z there on y was to firm));
              leads = leads_on k.machine opening (after_all opening f.actions) (leads_opened c allowed) (f.actions, f.allowed, refl);
              adds = same_files_add w v k opening (after_all opening f.actions) f.elsewhere.files (adds_opened c allowed);
            }

      stands_down : IsBesideAfter calls (record { state = stopped_client s; out = down_output; seen = [] })
      stands_down =
          let names = stays_at config calls greatest w.clients w.sent k.log ss p.names h.requests named_calling asking_calling number index (stopped_client s) (λ on. absurd (true≢false (sym on))) in
          down_opened c allowed p.names h.requests ((begun.0).names p.names p.same) names.0 names.1

      abbrev Calls : Taken ClientState → Type 0
      Calls t = IsBesideAfter (answered_trace client t.out.answer calls) t

      call_ends : (d : ClientDoing) → IsFileStep s moment d → IsBegun p.whole client c d → d.client.id ≡ s.id → IsNewCall s d.client.current → (end : Ending) → Calls (client_ends s d end)
      call_ends d step b same_id new Goes = stands_on d step b same_id new
      call_ends d step b same_id new Lost = stands_down
      call_ends d step b same_id new (Stops changes) = stands_down

      abbrev refused : ClientDoing
      refused = answers (client_begins (client_at s moment)) (answer.Refused NoMemory)

      pub call_stands : Calls (client_call s moment c choice)
      call_stands =
          on_cond Calls (first_is_true choice.refused) (client_ends s refused choice.ending) (client_ends s (client_call_goes s moment c) choice.ending)
          (λ _. call_ends refused (record { config = refl; now = refl; count = refl; says = λ x is. none_some x is; call = (answer.Refused NoMemory, refl) }) begun.1 refl tt choice.ending)
          (λ _. let new = next_call s moment c none in call_ends (client_call_goes s moment c) (file_calls_begin s moment c plain) begun.0 new.0 new.1 choice.ending)

    -- a name call is made

    module _ (asked : IsAskedFor w.sent k.log ss) (none : s.current ≡ None) (c : Call) (name : is_name_call c ≡ true) where
      abbrev called : List Visible
      called = trace ++ Called client c ∷ []

      abbrev made : Machine
      made = after p.whole (Invoke client c)

      abbrev naming : Machine
      naming = after p.names (Invoke client c)

      known_client : IsKnownClient w.sent k.log ss index s
      known_client = facts config servers clients w r index s at up k.log ss asked

      idle_named : (p.names.clients client).open_call ≡ None
      idle_named = subst (λ (o : Option CurrentCall). IsBesideCall p.names h.requests client o) none (own.beside).call

      idle_opening : (p.whole.clients client).open_call ≡ None
      idle_opening = subst (λ (o : Option CurrentCall). IsCallAlike p.whole client o) none (files_passed index s at up).call

      taken : Allows p.whole (Invoke client c) × AreNamesOf made naming
      taken = name_actions_are_taken p.whole p.names (Invoke client c) p.same refl idle_named (idle_opening, name)

      may_make : Allows p.whole (Invoke client c)
      may_make = taken.0

      abbrev d : ClientDoing
      d = client_call_goes s moment c

      name_goes : IsBesideAfter (answered_trace client d.answer called) (client_ends s d Goes)
      name_goes =
          let names = name_done_at config trace greatest w.clients w.sent k.log ss p.names h.requests p.named asking_passed number index s up at known_client moment early none c name in
          let new = next_call s moment c none in
          record {
            machine = made;
            names = naming;
            requests = with_request h.requests client (Some (suc s.call_count));
            named = names.0;
            asking = names.1;
            run = subst (λ (a : Option Answer). IsRunTo config (answered_trace client a called) made) (sym (name_calls_begin s moment c name).0.unanswered) (run_opened c may_make);
            same = taken.1;
            chunks = chunks_opened c may_make;
            files = put_all (λ other z. IsTrue z.up → IsFileClient made (suc other) z) w.clients index d.client
                (λ on. (name_calls_keep_files p.whole client s (files_passed index s at up) none moment c name).0)
                (λ other z apart there on. (others_opened c may_make other z apart (files_passed other z there on)).0);
            said = put_all (λ other z. IsTrue z.up → AreOwnWordsSo w.sent made other z) w.clients index d.client
                (λ on. words_at config servers clients w r index s at up made d.client new.0 new.1)
                (λ other z apart there on y was to firm. (others_opened c may_make other z apart (files_passed other z there on)).1 (input.Deliver y) firm (said_passed other z there on y was to firm));
            leads = leads_opened c may_make;
            adds = adds_opened c may_make;
          }

      name_stops : IsBesideAfter called (record { state = stopped_client s; out = down_output; seen = [] })
      name_stops =
          let names = name_down_at config trace greatest w.clients w.sent k.log ss p.names h.requests p.named asking_passed number index s up at known_client moment early none c name in
          down_opened c may_make naming (with_request h.requests client None) taken.1 names.0 names.1

      -- refused for want of memory

      abbrev reply : Answer
      reply = answer.Refused NoMemory

      abbrev refusing : ClientDoing
      refusing = answers (client_begins (client_at s moment)) reply

      abbrev closed : Machine
      closed = after made (Return client reply)

      refused_too : Allows made (Return client reply) × AreNamesOf closed (after naming (Return client reply))
      refused_too =
          name_actions_are_taken made naming (Return client reply) taken.1 refl
          (given config trace greatest w.clients w.sent k.log ss p.names h.requests p.named asking_passed number index s up at known_client moment early none c name) tt

      closed_same : (closed.config ≡ made.config) × (closed.files ≡ made.files)
      closed_same = let same = return_leaves made client (refused_too.0).0 (refused_too.0).1 reply in (same.0, same.1)

      others_closed : (other : ℕ) (z : ClientState) → (other ≡ index → ⊥) → IsFileClient p.whole (suc other) z
          → IsFileClient closed (suc other) z × ((j : NodeInput) → IsFirmInput j → IsSaid p.whole (suc other) z j → IsSaid closed (suc other) z j)
      others_closed other z apart g =
          let one_on = others_opened c may_make other z apart g in
          let two_on = file_clients_stay config made (reached_opened c may_make) (Return client reply) refused_too.0 (suc other) (not_own other apart) z one_on.0 in
          (two_on.0, λ j firm said. two_on.1 j firm (one_on.1 j firm said))

      name_refused : IsBesideAfter (answered_trace client (Some reply) called) (client_ends s refusing Goes)
      name_refused =
          let names = name_refused_at config trace greatest w.clients w.sent k.log ss p.names h.requests p.named asking_passed number index s up at known_client moment early none c name in
          record {
            machine = closed;
            names = after naming (Return client reply);
            requests = with_request h.requests client None;
            named = names.0;
            asking = names.1;
            run = run_goes config called made (Return client reply ∷ []) (run_opened c may_make) (refused_too.0, tt);
            same = refused_too.1;
            chunks = same_files_keep_chunks_beside config v (record placed { machine = made }) closed (chunks_opened c may_make) closed_same.0 closed_same.1;
            files = put_all (λ other z. IsTrue z.up → IsFileClient closed (suc other) z) w.clients index refusing.client
                (λ on. (name_calls_keep_files p.whole client s (files_passed index s at up) none moment c name).1)
                (λ other z apart there on. (others_closed other z apart (files_passed other z there on)).0);
            said = put_all (λ other z. IsTrue z.up → AreOwnWordsSo w.sent closed other z) w.clients index refusing.client
                (λ on. words_at config servers clients w r index s at up closed refusing.client refl tt)
                (λ other z apart there on y was to firm. (others_closed other z apart (files_passed other z there on)).1 (input.Deliver y) firm (said_passed other z there on y was to firm));
            leads = leads_on k.machine made closed (leads_opened c may_make) (leads_by made (Return client reply) refused_too.0);
            adds = same_files_add w v k made closed closed_same.1 (adds_opened c may_make);
          }

      abbrev Names : Taken ClientState → Type 0
      Names t = IsBesideAfter (answered_trace client t.out.answer called) t

      name_ends : (end : Ending) → Names (client_ends s d end)
      name_ends Goes = name_goes
      name_ends Lost = name_stops
      name_ends (Stops changes) = name_stops

      refused_ends : (end : Ending) → Names (client_ends s refusing end)
      refused_ends Goes = name_refused
      refused_ends Lost = name_stops
      refused_ends (Stops changes) = name_stops

      pub name_call_stands : Names (client_call s moment c choice)
      name_call_stands =
          on_cond Names (first_is_true choice.refused) (client_ends s refusing choice.ending) (client_ends s d choice.ending) (λ _. refused_ends choice.ending) (λ _. name_ends choice.ending)

    -- a name call waits, or is over

    module _ (asked : IsAskedFor w.sent k.log ss) (i : NodeInput) (came : ComesTo w.sent client i) (x : CurrentCall) (is : s.current ≡ Some x) (staged : x.stage ≡ AskedNames) where
      known_still : IsKnownClient w.sent k.log ss index s
      known_still = facts config servers clients w r index s at up k.log ss asked

      abbrev doing : ClientDoing
      doing = client_goes s moment i

      waiting_here : IsBesideAt p.names h.requests client x AskedNames
      waiting_here = here config trace greatest w.clients w.sent k.log ss p.names h.requests p.named asking_passed number index s up at known_still moment early i came x is staged

      open_there : (o : OpenCall) × ((p.whole.clients client).open_call ≡ Some o) × (is_name_call o.asked.call ≡ true)
      open_there = open_too (p.whole.clients client) (p.names.clients client).open_call (p.whole.clients client).open_call waiting_here.0 (p.same.calls client) (waiting_here.1).is_open

      told_as_made : (j : NodeInput) → ComesTo w.sent client j → TellsAsMade p.whole j
      told_as_made (input.Deliver y) to = λ number file shape is. (told_still config k.machine p.whole before leads_passed w.sent h.shapes).opened (to.0).0 number y file shape (to.0).1 is
      told_as_made input.Tick to = tt

      files_then : IsAnsweredAs p.whole client x.number i doing doing.answer
      files_then = name_steps_keep_files p.whole client s x (files_passed index s at up) is staged open_there.0 open_there.1 open_there.2 moment i (told_as_made i came)

      words_then : (m : Machine) → (AreOwnWordsSo w.sent p.whole index s → AreOwnWordsSo w.sent m index s) → AreOwnWordsSo w.sent m index doing.client
      words_then m stay =
          elim (next_step s moment i) [
            | inl same ↦ subst (λ (g : ClientDoing). AreOwnWordsSo w.sent m index g.client) (sym same) (λ y was to firm. stay (said_passed index s at up) y was to firm)
            | inr new ↦ words_at config servers clients w r index s at up m doing.client new.0 new.1
          ]

      abbrev GoesOn : Type 0
      GoesOn = IsBesideAfter (answered_trace client doing.answer trace) (client_ends s doing Goes)

      step : IsNameStep s moment doing
      step = name_calls_ask_again s moment i x is staged

      late : doing.client.now ≤ greatest
      late = let at_moment = step.now in let low = max-le own.now early in omega (arith, at_moment, low)

      -- the call waits
      module _ (waits_on : waits.IsWaiting doing x.number x.asked × (doing.client.fd_count ≡ s.fd_count)) where
        abbrev silent : doing.answer ≡ None
        silent = (waits_on.0).unanswered

        beside_still : IsBesideClient doing.client p.names h.requests client
        beside_still =
            record {
              call = beside_waiting p.names h.requests client x.number x.asked doing waiting_here.0 waits_on.0 waiting_here.1 waiting_here.2 waiting_here.3;
              count = (own.beside).count ∙ sym waits_on.1;
            }

        named_still : IsNamesBeside config trace greatest (w.sent ++ stamped number (option_to_list doing.sent)) k.log ss p.names h.requests
        named_still =
            says_more config trace greatest w.sent k.log ss p.names h.requests p.named number (option_to_list doing.sent)
            (heard config trace greatest w.clients w.sent k.log ss p.names h.requests p.named asking_passed number index s up at known_still moment early i came x is staged p.names beside_still)

        asking_still : AreClientsBeside config trace greatest (with_at w.clients index doing.client) p.names h.requests
        asking_still =
            one_on config trace trace greatest w.clients p.names p.names h.requests h.requests index doing.client (λ q apart. left_same (p.names.clients q)) (λ q apart. refl) (λ q apart. refl)
            (λ _. record {
              beside = beside_still;
              naming = λ y now. own.naming x is ∙ ap is_asked_names staged
                  ∙ ap is_asked_names (sym (subst (λ (z : CurrentCall). z.stage ≡ AskedNames) (same_some (waits_on.0).current y (sym (waits_on.0).is_open ∙ now)) (waits_on.0).stage_is));
              settings = step.config ∙ own.settings;
              now = late;
            }) asking_passed

        waits_stand : GoesOn
        waits_stand =
            record {
              machine = p.whole;
              names = p.names;
              requests = h.requests;
              named = subst (λ (a : Option Answer). IsNamesBeside config (answered_trace client a trace) greatest (w.sent ++ stamped number (option_to_list doing.sent)) k.log ss p.names h.requests) (sym silent) named_still;
              asking = subst (λ (a : Option Answer). AreClientsBeside config (answered_trace client a trace) greatest (with_at w.clients index doing.client) p.names h.requests) (sym silent) asking_still;
              run = subst (λ (a : Option Answer). IsRunTo config (answered_trace client a trace) p.whole) (sym silent) p.run;
              same = p.same;
              chunks = chunks_passed;
              files = put_all (λ other z. IsTrue z.up → IsFileClient p.whole (suc other) z) w.clients index doing.client
                  (λ on. subst (λ (a : Option Answer). IsAnsweredAs p.whole client x.number i doing a) silent files_then) (λ other z apart there on. files_passed other z there on);
              said = put_all (λ other z. IsTrue z.up → AreOwnWordsSo w.sent p.whole other z) w.clients index doing.client (λ on. words_then p.whole (λ said. said)) (λ other z apart there on. said_passed other z there on);
              leads = leads_passed;
              adds = adds_passed;
            }

      -- the call is over, by this action
      module _ (over : waits.IsOver s moment i doing x) (a : Action) (of_names : is_name_action a ≡ true) (answers_it : IsAnswerTo client a) (allowed : Allows p.names a) (ready : IsReady p.whole a) (shows : shown a ≡ Some (Answered client over.reply))
          (of_client : (other : ℕ) → (other ≡ index → ⊥) → IsOfOthers (suc other) a) (alone : ((after p.whole a).config ≡ p.whole.config) × ((after p.whole a).files ≡ p.whole.files))
          (files_over : IsFileClient (after p.whole a) client doing.client)
        where
          abbrev ended : List Visible
          ended = trace ++ Answered client over.reply ∷ []

          abbrev then_names : Machine
          then_names = after p.names a

          abbrev then_whole : Machine
          then_whole = after p.whole a

          both_take : Allows p.whole a × AreNamesOf then_whole then_names
          both_take = name_actions_are_taken p.whole p.names a p.same of_names allowed ready

          left : ((then_names.clients client).open_call ≡ None) × ((then_names.clients client).fd_count ≡ doing.client.fd_count)
          left = (
            none_too (then_whole.clients client) (then_names.clients client).open_call (then_whole.clients client).open_call ((both_take.1).calls client) (subst (λ (o : Option CurrentCall). IsCallAlike then_whole client o) over.none_open files_over.call),
            (both_take.1).fds client ∙ sym files_over.fds,
          )

          shown_once : visible (a ∷ []) ≡ Answered client over.reply ∷ []
          shown_once = ap (λ (o : Option Visible). cons_option o []) shows

          abbrev run_of : LeadsByNames p.names then_names
          run_of = single p.names a allowed of_names

          alike_then : AreAlike k.log (filter (λ t. not (t.client == client)) (lasting config.skew_ms greatest ss)) then_names h.requests × ((y : Message) → IsTold p.names h.requests y → IsTold then_names h.requests y)
          alike_then = answers_end_calls k.log (lasting config.skew_ms greatest ss) p.names h.requests client a (p.named).alike answers_it allowed

          why : WhyOver config trace greatest w.clients w.sent k.log ss p.names h.requests p.named asking_passed number index s up at known_still moment early i came x is staged
          why = why_over config trace greatest w.clients w.sent k.log ss p.names h.requests p.named asking_passed number index s up at known_still moment early i came x is staged over.reply over.caused

          clock_then : then_names.clock ≡ p.names.clock
          clock_then = clock_left config trace greatest w.sent k.log ss p.names h.requests p.named client then_names run_of (Answered client over.reply) shown_once refl

          ends_now : IsNamesBeside config ended greatest w.sent k.log ss then_names h.requests × ((q : ℕ) → (q ≡ client → ⊥) → IsLeft (p.names.clients q) (then_names.clients q))
          ends_now =
              ends_call config trace greatest w.sent k.log ss p.names h.requests p.named client then_names run_of over.reply shown_once alike_then.0 alike_then.1
              (none_of_own config trace greatest w.clients w.sent k.log ss p.names h.requests p.named asking_passed number index s up at known_still moment early i came x is staged why ss known_still.waits (p.named).alike.locks)
              (own.naming x is ∙ ap is_asked_names staged)
              (over_known config trace greatest w.clients w.sent k.log ss p.names h.requests p.named asking_passed number index s up at known_still moment early i came x is staged why then_names clock_then
              (clock_and_settings_are_seen p.names then_names run_of).1 left.0)

          beside_over : IsBesideClient doing.client then_names h.requests client
          beside_over = record { call = subst (λ (o : Option CurrentCall). IsBesideCall then_names h.requests client o) (sym over.none_open) left.0; count = left.1 }

          named_over : IsNamesBeside config ended greatest (w.sent ++ stamped number (option_to_list doing.sent)) k.log ss then_names h.requests
          named_over =
              says_more config ended greatest w.sent k.log ss then_names h.requests ends_now.0 number (option_to_list doing.sent)
              (heard config trace greatest w.clients w.sent k.log ss p.names h.requests p.named asking_passed number index s up at known_still moment early i came x is staged then_names beside_over)

          asking_over : AreClientsBeside config ended greatest (with_at w.clients index doing.client) then_names h.requests
          asking_over =
              one_on config trace ended greatest w.clients p.names then_names h.requests h.requests index doing.client ends_now.1 (λ q apart. refl)
              (λ q apart. ap (λ (f : LastCalls). f q) (calls_grow none_called trace (Answered client over.reply)))
              (λ _. record { beside = beside_over; naming = λ y now. none_some y (sym over.none_open ∙ now); settings = step.config ∙ own.settings; now = late }) asking_passed

          run_over : IsRunTo config ended then_whole
          run_over = subst (λ (vs : List Visible). IsRunTo config (trace ++ vs) then_whole) shown_once (run_goes config trace p.whole (a ∷ []) p.run (both_take.0, tt))

          others_over : (other : ℕ) (z : ClientState) → (other ≡ index → ⊥) → IsFileClient p.whole (suc other) z
              → IsFileClient then_whole (suc other) z × ((j : NodeInput) → IsFirmInput j → IsSaid p.whole (suc other) z j → IsSaid then_whole (suc other) z j)
          others_over other z apart g = file_clients_stay config p.whole reached a both_take.0 (suc other) (of_client other apart) z g

          no_words : AreOwnWordsSo w.sent then_whole index doing.client
          no_words = λ y was to firm e o now open_call. none_some e (sym over.none_open ∙ now)

          over_stands : GoesOn
          over_stands =
              record {
                machine = then_whole;
                names = then_names;
                requests = h.requests;
                named = subst (λ (b : Option Answer). IsNamesBeside config (answered_trace client b trace) greatest (w.sent ++ stamped number (option_to_list doing.sent)) k.log ss then_names h.requests) (sym over.answer_is) named_over;
                asking = subst (λ (b : Option Answer). AreClientsBeside config (answered_trace client b trace) greatest (with_at w.clients index doing.client) then_names h.requests) (sym over.answer_is) asking_over;
                run = subst (λ (b : Option Answer). IsRunTo config (answered_trace client b trace) then_whole) (sym over.answer_is) run_over;
                same = both_take.1;
                chunks = same_files_keep_chunks_beside config v passed then_whole chunks_passed alone.0 alone.1;
                files = put_all (λ other z. IsTrue z.up → IsFileClient then_whole (suc other) z) w.clients index doing.client (λ on. files_over)
                    (λ other z apart there on. (others_over other z apart (files_passed other z there on)).0);
                said = put_all (λ other z. IsTrue z.up → AreOwnWordsSo w.sent then_whole other z) w.clients index doing.client (λ on. no_words)
                    (λ other z apart there on y was to firm. (others_over other z apart (files_passed other z there on)).1 (input.Deliver y) firm (said_passed other z there on y was to firm));
                leads = leads_on k.machine p.whole then_whole leads_passed (leads_by p.whole a both_take.0);
                adds = same_files_add w v k p.whole then_whole alone.1 adds_passed;
              }

      -- by its answer, or by a descriptor

      return_same : (reply : Answer) → (let n : Machine = after p.whole (Return client reply) in (n.config ≡ p.whole.config) × (n.files ≡ p.whole.files) × ((n.clients client).fd_count ≡ (p.whole.clients client).fd_count))
      return_same reply = return_leaves p.whole client open_there.0 open_there.1 reply

      name_there : is_name_call (waiting_here.0).asked.call ≡ true
      name_there = ap is_name_call waiting_here.2 ∙ waiting_here.3

      told_allows : (j : NodeInput) → ComesTo w.sent client j → (q : NameReply) → Tells j x.number q
          → ((reply : Answer) → q ≡ replies.Answered reply → Allows p.names (Return client reply)) × ((file : FileId) (shape : Shape) → q ≡ replies.Opened file shape → Allows p.names (ReturnFd client (suc (p.names.clients client).fd_count) file.0))
      told_allows (input.Deliver y) to q told =
          let given_now = told_answers_are_allowed p.names h.requests y client x.number waiting_here.0 ((p.named).told y to.0) (ap client_number to.1) waiting_here.1 name_there in
          (λ reply same. given_now.0 reply (told ∙ ap (λ (z : NameReply). body.Named x.number z) same), λ file shape same. given_now.1 file shape (told ∙ ap (λ (z : NameReply). body.Named x.number z) same))
      told_allows input.Tick to q told = absurd told

      over_returns : (over : waits.IsOver s moment i doing x) → IsFileClient (after p.whole (Return client over.reply)) client doing.client → Allows p.names (Return client over.reply) → GoesOn
      over_returns over files allowed =
          let same = return_same over.reply in over_stands over (Return client over.reply) refl refl allowed tt refl (λ other apart. not_own other apart) (same.0, same.1) files

      over_opens : (over : waits.IsOver s moment i doing x) (file : FileId) → over.reply ≡ answer.Fd (record { 0 = suc (p.whole.clients client).fd_count }) → IsFileClient (after p.whole (ReturnFd client (suc (p.whole.clients client).fd_count) file.0)) client doing.client
          → Allows p.names (ReturnFd client (suc (p.names.clients client).fd_count) file.0) → GoesOn
      over_opens over file reply_is files allowed =
          let fd : ℕ = suc (p.whole.clients client).fd_count in
          over_stands over (ReturnFd client fd file.0) refl refl (subst (λ (q : ℕ). Allows p.names (ReturnFd client (suc q) file.0)) (p.same.fds client) allowed) tt (ap (λ (a : Answer). Some (Answered client a)) (sym reply_is))
          (λ other apart. not_own other apart) (refl, refl) files

      returns_by : (over : waits.IsOver s moment i doing x) → IsFileClient (after p.whole (Return client over.reply)) client doing.client → Allows p.names (Return client over.reply)
      returns_by over files =
          elim (over.caused) [
            | inl told ↦ (told_allows i came (replies.Answered over.reply) told.0).0 over.reply refl
            | inr rest ↦ elim (rest) [
              | inl opened ↦
                  let one : doing.client.fd_count ≡ suc s.fd_count = opened.3 in
                  let two : doing.client.fd_count ≡ ((after p.whole (Return client over.reply)).clients client).fd_count = files.fds in
                  let three : ((after p.whole (Return client over.reply)).clients client).fd_count ≡ (p.whole.clients client).fd_count = (return_same over.reply).2 in
                  let four : s.fd_count ≡ (p.whole.clients client).fd_count = (files_passed index s at up).fds in
                  absurd (omega (arith, one, two, three, four))
              | inr late_now ↦ subst (λ (a : Answer). Allows p.names (Return client a)) (sym late_now.0) (name_calls_may_give_up p.names client waiting_here.0 (waiting_here.1).is_open name_there).0
            ]
          ]

      over_any : (over : waits.IsOver s moment i doing x) → IsAnsweredAs p.whole client x.number i doing (Some over.reply) → GoesOn
      over_any over files =
          elim (files) [
            | inl plain ↦ over_returns over plain (returns_by over plain)
            | inr opened ↦ over_opens over opened.0 opened.2 opened.3 ((told_allows i came (replies.Opened opened.0 (opened.1).0) (opened.1).1).1 opened.0 (opened.1).0 refl)
          ]

      step_goes : GoesOn
      step_goes =
          elim (name_calls_are_answered_as_told s moment i x is staged) [
            | inl waiting_on ↦ waits_stand waiting_on
            | inr over ↦ over_any over (subst (λ (a : Option Answer). IsAnsweredAs p.whole client x.number i doing a) over.answer_is files_then)
          ]

      abbrev Steps : Taken ClientState → Type 0
      Steps t = IsBesideAfter (answered_trace client t.out.answer trace) t

      step_ends : (end : Ending) → Steps (client_ends s doing end)
      step_ends Goes = step_goes
      step_ends Lost = stands_down_now
      step_ends (Stops changes) = stands_down_now

      pub name_step_stands : Steps (client_step s moment i choice)
      name_step_stands =
          on_cond Steps (may_step s) (client_ends s doing choice.ending) (no_step s) (λ _. step_ends choice.ending)
          (λ _. stands_still s false (λ on. own) (λ on. files_passed index s at up) (λ on. said_passed index s at up))

    -- a call of either kind

    module _ (asked : IsAskedFor w.sent k.log ss) (none : s.current ≡ None) (some : 1 ≤ config.chunk) (c : Call) where
      abbrev AnyCall : Type 0
      AnyCall = IsBesideAfter (answered_trace client (client_call s moment c choice).out.answer (trace ++ Called client c ∷ [])) (client_call s moment c choice)

      by_kind : (b : Bool) → is_name_call c ≡ b → AnyCall
      by_kind true name = name_call_stands asked none c name
      by_kind false plain = call_stands none some c plain

      pub any_call_stands : AnyCall
      any_call_stands = by_kind (is_name_call c) refl
