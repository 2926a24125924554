-- A whole step of a client, and a whole call, with what its ending leaves.
use Rattle.std.proofs.Common.{◌≡◌, ⊎_elim, ℕ, suc, ◌≤◌, Bool, true, false, List, [], ◌∷◌, ◌++◌, Option, Some, None, refl, sym, ap, subst, ◌∙◌, inl, inr, arith}
use Rattle.std.specs.Prelude.{◌==◌, not, filter, IsTrue}
use Rattle.std.specs.List.{AllByRecursion}
use Rattle.std.specs.Option.{option_to_list}
use Rattle.std.proofs.lemmas.Bool.{true≢false, eqb-true}
use Rattle.std.proofs.lemmas.Option.{none-some}
use Rattle.std.proofs.Math.Nat.{max-le}
use Rattle.std.specs.FinMap as table
use Rattle.gfs_types.specs.declared.config.Config.{Config}
use Rattle.gfs_types.specs.declared.call.Call.{Call}
use Rattle.gfs_types.specs.declared.answer.Answer.{Answer}
use Rattle.gfs_types.specs.declared.answer.Answer.TheVariants as answer
use Rattle.gfs_types.specs.declared.refusal.Refusal.TheVariants.{NoMemory}
use Rattle.messages.specs.declared.event.NodeInput.{NodeInput}
use Rattle.messages.specs.declared.message.Body.{Body}
use Rattle.messages.specs.declared.message.Body.TheVariants as body
use Rattle.messages.specs.declared.message.Message.{Message}
use Rattle.relaxed_file.specs.Machine.{Machine, Client, OpenCall}
use Rattle.relaxed_file.specs.NameStep.{is_name_call}
use Rattle.relaxed_file.specs.Answers.{returned}
use Rattle.relaxed_file.specs.Run.{Visible, Called, Answered, Invoke, Return, Allows, after, asked_now}
use Rattle.relaxed_file.proofs.Tables.{put_same, put_other, at_some, from_some}
use Rattle.machine_names.specs.NameRuns.{LeadsByNames}
use Rattle.machine_names.specs.UnseenRuns.{IsLeft}
use Rattle.machine_names.specs.NameTraces.{LastCalls, none_called, last_calls, is_naming}
use Rattle.machine_names.proofs.Seen.{single, left_same, left_then, calling, answered}
use Rattle.machine_names.proofs.Traces.{calls_grow}
use Rattle.client_state.specs.declared.call.CurrentCall.{CurrentCall}
use Rattle.client_state.specs.declared.call.Stage.{Stage}
use Rattle.client_state.specs.declared.call.Stage.TheVariants.{AskedNames}
use Rattle.protocol.specs.Tables.{element_at, with_at}
use Rattle.protocol.specs.Choice.{Choice, Ending, Goes, Lost, Stops}
use Rattle.protocol.specs.World.{stamped}
use Rattle.protocol.specs.Seen.{Taken, no_step}
use Rattle.protocol.specs.Sending.{client_number}
use Rattle.protocol.specs.Logged.{Logged, KeptCall}
use Rattle.protocol.specs.Master.{PendingSnapshot}
use Rattle.protocol.specs.MasterSnapshots.{first_is_true}
use Rattle.protocol.specs.Client.{ClientState, ClientDoing, stopped_client, client_begins, answers}
use Rattle.protocol.specs.ClientStep.{client_at, client_goes, client_call_goes, client_does, client_ends, client_call, client_step, may_step}
use Rattle.laws_base.proofs.Steps.{on_cond, none_some, same_some, same_or_not}
use Rattle.laws_base.proofs.MessagesSent.{none_sent}
use Rattle.laws_base.specs.Attempts.{IsRequestOf}
use Rattle.laws_base.proofs.ClientNumbers.{call_numbered}
use Rattle.laws_names.specs.NameWords.{IsAnswerToAsked}
use Rattle.laws_base.specs.FileCalls.{IsOfFile, IsFileStep, IsNameStep}
use Rattle.laws_base.proofs.FileSteps.{file_calls_begin, file_calls_go_on}
use Rattle.laws_base.proofs.NameSteps.{name_calls_ask_first}
use Rattle.laws_names.proofs.Steps.{name_calls_begin}
use Rattle.laws_names.specs.Alike.{Requests, AreAlike, HoldsLocks}
use Rattle.laws_names.specs.Followed.{IsTold}
use Rattle.laws_names.specs.NameClients.{with_request, IsOfOther}
use Rattle.laws_names.proofs.Beginnings.{calls_begin}
use Rattle.laws_names.proofs.Ends.{answers_end_calls}
use Rattle.laws_names.proofs.Answers.{name_calls_may_give_up}
use Rattle.laws_names.specs.FollowedClients.{IsBesideAt, IsBesideCall, IsBesideClient}
use Rattle.laws_names.proofs.FollowedClientsCalls.{begun_beside}
use Rattle.laws_names.specs.Beside.{lasting, IsKnown, IsNamesBeside, is_asked_names, IsClientBeside, AreClientsBeside, answered_trace, ComesTo}
use Rattle.laws_names.proofs.BesideClientsBeside.{client_on, one_on, says_more, says_else}
use Rattle.laws_names.proofs.Clients.{sent_one, the_sender, reseen, file_called, ends_call, begins_call, IsNotUnder, IsKnownClient, Left, stays_with, file_goes, asks_known, client_asked, kept_asked, name_goes}

module _ (config : Config) (trace : List Visible) (greatest : ℕ) (clients : List ClientState) (sent : List Message) (l : Logged) (ss : List PendingSnapshot) (m : Machine) (requests : Requests)
    (h : IsNamesBeside config trace greatest sent l ss m requests) (all : AreClientsBeside config trace greatest clients m requests) (k index : ℕ) (s : ClientState) (up : IsTrue s.up) (at : element_at clients index ≡ Some s)
    (facts : IsKnownClient sent l ss index s)
  where
    abbrev client : ℕ
    client = suc index

    abbrev own : IsClientBeside config trace greatest s m requests client
    own = all index s at up

    abbrev LeftBy : List Visible → Taken ClientState → Type 0
    LeftBy more t = Left config trace greatest clients sent l ss m requests h all k index (answered_trace client t.out.answer more) t.state t.out.sent

    -- beside this machine
    abbrev pub LeftTo : Machine → Requests → List Visible → ClientState → List Message → Type 0
    LeftTo n later more t ms = IsNamesBeside config more greatest (sent ++ stamped k ms) l ss n later × AreClientsBeside config more greatest (with_at clients index t) n later

    -- a step

    module _ (moment : ℕ) (reached : moment ≤ greatest) (i : NodeInput) (came : ComesTo sent client i) where
      abbrev GoesTo : ClientDoing → Type 0
      GoesTo d = Left config trace greatest clients sent l ss m requests h all k index (answered_trace client d.answer trace) d.client (option_to_list d.sent)

      idle_later : IsClientBeside config trace greatest (client_at s moment) m requests client
      idle_later = record { beside = record { call = (own.beside).call; count = (own.beside).count }; naming = own.naming; settings = own.settings; now = max-le own.now reached }

      at_stage : (c : CurrentCall) (st : Stage) → s.current ≡ Some c → c.stage ≡ st → IsBesideAt m requests client c st → is_naming (last_calls none_called trace client) ≡ is_asked_names st → GoesTo (client_goes s moment i)
      at_stage c AskedNames is_open stage_is beside naming = name_goes config trace greatest clients sent l ss m requests h all k index s up at facts moment reached i came c is_open stage_is
      at_stage c other is_open stage_is beside naming =
          file_goes config trace greatest clients sent l ss m requests h all k index s moment (client_goes s moment i) own reached (file_calls_go_on s moment i c is_open (subst (λ (st : Stage). IsOfFile st) (sym stage_is) tt)) beside naming

      goes : (o : Option CurrentCall) → s.current ≡ o → GoesTo (client_goes s moment i)
      goes None none =
          subst (λ (d : ClientDoing). GoesTo d) (ap (λ (o : Option CurrentCall). client_does (client_begins (client_at s moment)) i o) (sym none))
          (stays_with config trace greatest clients sent l ss m requests h all k index (client_at s moment) (λ _. idle_later))
      goes (Some c) is_open = at_stage c c.stage is_open refl (subst (λ (o : Option CurrentCall). IsBesideCall m requests client o) is_open (own.beside).call) (own.naming c is_open)

      by_ending : (e : Ending) → LeftBy trace (client_ends s (client_goes s moment i) e)
      by_ending Goes = goes s.current refl
      by_ending Lost = stays_with config trace greatest clients sent l ss m requests h all k index (stopped_client s) (λ on. absurd (true≢false (sym on)))
      by_ending (Stops made) = stays_with config trace greatest clients sent l ss m requests h all k index (stopped_client s) (λ on. absurd (true≢false (sym on)))

      pub steps_beside : (choice : Choice) → LeftBy trace (client_step s moment i choice)
      steps_beside choice =
          on_cond (LeftBy trace) (may_step s) (client_ends s (client_goes s moment i) choice.ending) (no_step s) (λ _. by_ending choice.ending)
          (λ _. stays_with config trace greatest clients sent l ss m requests h all k index s (λ _. own))

    -- a call

    module _ (moment : ℕ) (reached : moment ≤ greatest) (none : s.current ≡ None) (c : Call) where
      abbrev calling_trace : List Visible
      calling_trace = trace ++ Called client c ∷ []

      idle : (m.clients client).open_call ≡ None
      idle = subst (λ (o : Option CurrentCall). IsBesideCall m requests client o) none (own.beside).call

      last_others : (q : ℕ) → (q ≡ client → ⊥) → last_calls none_called calling_trace q ≡ last_calls none_called trace q
      last_others q not = ap (λ (f : LastCalls). f q) (calls_grow none_called trace (Called client c)) ∙ put_other client (Some c) (last_calls none_called trace) q not

      last_own : last_calls none_called calling_trace client ≡ Some c
      last_own = ap (λ (f : LastCalls). f client) (calls_grow none_called trace (Called client c)) ∙ put_same client (Some c) (last_calls none_called trace)

      abbrev refused : ClientDoing
      refused = answers (client_begins (client_at s moment)) (answer.Refused NoMemory)

      -- on a file

      module _ (plain : is_name_call c ≡ false) where
        file_names : IsNamesBeside config calling_trace greatest sent l ss m requests
        file_names = reseen config trace greatest sent l ss m requests h calling_trace (file_called config trace greatest sent l ss m requests h client c plain)

        file_clients : AreClientsBeside config calling_trace greatest clients m requests
        file_clients other t is on = ⊎_elim
            (λ same.
            let here : s ≡ t = same_some s t (sym at ∙ (ap (λ (j : ℕ). element_at clients j) same ∙ is)) in
            let mine : IsClientBeside config calling_trace greatest s m requests client = record { beside = own.beside; naming = λ e now. none_some e (sym none ∙ now); settings = own.settings; now = own.now } in
            subst (λ (j : ℕ). IsClientBeside config calling_trace greatest t m requests (suc j)) same (subst (λ (x : ClientState). IsClientBeside config calling_trace greatest x m requests client) here mine))
            (λ apart.
            client_on m m requests requests (suc other) (left_same (m.clients (suc other))) refl config trace calling_trace greatest greatest t (last_others (suc other) (λ e. apart (omega (arith, e)))) (omega arith)
            (all other t is on))
            (same_or_not index other)

        abbrev FileGoesTo : ClientDoing → Type 0
        FileGoesTo d = Left config trace greatest clients sent l ss m requests h all k index (answered_trace client d.answer calling_trace) d.client (option_to_list d.sent)

        file_done : (d : ClientDoing) → IsFileStep s moment d → FileGoesTo d
        file_done d step =
            file_goes config calling_trace greatest clients sent l ss m requests file_names file_clients k index s moment d (file_clients index s at up) reached step idle (ap is_naming last_own ∙ plain)

        file_ends : (d : ClientDoing) → IsFileStep s moment d → (e : Ending) → LeftBy calling_trace (client_ends s d e)
        file_ends d step Goes = file_done d step
        file_ends d step Lost = stays_with config calling_trace greatest clients sent l ss m requests file_names file_clients k index (stopped_client s) (λ on. absurd (true≢false (sym on)))
        file_ends d step (Stops made) = stays_with config calling_trace greatest clients sent l ss m requests file_names file_clients k index (stopped_client s) (λ on. absurd (true≢false (sym on)))

        file_call : (choice : Choice) → LeftBy calling_trace (client_call s moment c choice)
        file_call choice =
            on_cond (LeftBy calling_trace) (first_is_true choice.refused) (client_ends s refused choice.ending) (client_ends s (client_call_goes s moment c) choice.ending)
            (λ _. file_ends refused (record { config = refl; now = refl; count = refl; says = λ x is. none_some x is; call = (answer.Refused NoMemory, refl) }) choice.ending)
            (λ _. file_ends (client_call_goes s moment c) (file_calls_begin s moment c plain) choice.ending)

      -- of names

      module _ (name : is_name_call c ≡ true) where
        abbrev n1 : Machine
        n1 = after m (Invoke client c)

        run1 : LeadsByNames m n1
        run1 = single m (Invoke client c) idle refl

        -- under the next number

        abbrev number : Option ℕ
        number = Some (suc s.call_count)

        abbrev later : Requests
        later = with_request requests client number

        abbrev d : ClientDoing
        d = client_call_goes s moment c

        of_other : (b : Body) → IsAnswerToAsked sent client b → IsOfOther b number
        of_other (body.Named named reply) asked = λ same.
            let low = client_asked config trace greatest clients sent l ss m requests h all k index s up at facts named asked in
            let is : suc s.call_count ≡ named = from_some same in
            omega (arith, low, is)
        of_other other asked = tt

        fresh : (b : Body) → IsRequestOf s b → IsNotUnder config trace greatest sent l ss m requests h client m ([], tt, refl, refl) number b
        fresh (body.Look asked e) used = λ same. let is : suc s.call_count ≡ asked = from_some same in omega (arith, used, is)
        fresh other used = tt

        name_step : IsNameStep s moment d
        name_step = name_calls_ask_first s moment c name

        low : (x : KeptCall) → table.get l.kept client ≡ Some x → x.number ≤ s.call_count
        low = kept_asked config trace greatest clients sent l ss m requests h all k index s up at facts

        begun_now : Allows m (Invoke client c) × AreAlike l (lasting config.skew_ms greatest ss) n1 later
            × ((x : Message) → (client_number x.receiver ≡ client → IsOfOther x.body number) → IsTold m requests x → IsTold n1 later x)
        begun_now = calls_begin l (lasting config.skew_ms greatest ss) m requests client number c h.alike idle (λ x is same. let few = low x is in let number_is : suc s.call_count ≡ x.number = from_some same in omega (arith, few, number_is))

        names_now : IsNamesBeside config calling_trace greatest sent l ss n1 later × ((q : ℕ) → (q ≡ client → ⊥) → IsLeft (m.clients q) (n1.clients q))
        names_now =
            begins_call config trace greatest sent l ss m requests h client n1 (single m (Invoke client c) idle refl) c number name refl begun_now.1
            (λ x is. begun_now.2 x (λ to. of_other x.body (subst (λ (q : ℕ). IsAnswerToAsked sent q x.body) to (facts.answers x is))) (h.told x is)) idle
            (λ x is from. fresh x.body (facts.numbered.used up is.0 x is.1 (the_sender x.sender index from)))
            (λ x q is same. let few = low x is in let number_is : suc s.call_count ≡ q = from_some same in omega (arith, few, number_is))

        beside_now : IsBesideClient d.client n1 later client
        beside_now = begun_beside m requests client s moment c own.beside name

        pub name_done_at : LeftTo n1 later (answered_trace client d.answer calling_trace) d.client (option_to_list d.sent)
        name_done_at =
            let waiting = (name_calls_begin s moment c name).0 in
            subst (λ (a : Option Answer). LeftTo n1 later (answered_trace client a calling_trace) d.client (option_to_list d.sent)) (sym waiting.unanswered) (
              says_more config calling_trace greatest sent l ss n1 later names_now.0 k (option_to_list d.sent)
                  (λ x is.
                  let said : d.sent ≡ Some x = sent_one d.sent x is in
                  let from = ((call_numbered s moment c facts.numbered.named).says x said).0 in
                  let both = asks_known config trace greatest clients sent l ss m requests h all k index d.client n1 later (client_number x.receiver) x.body beside_now (name_step.says x said) in
                  (both.0, subst (λ (q : ℕ). IsKnown l.kept n1 later q x.body) (sym (ap client_number from ∙ facts.numbered.id)) both.1)),
              one_on config trace calling_trace greatest clients m n1 requests later index d.client names_now.1 (λ q not. put_other client number requests q not) last_others
                  (λ _. record {
                    beside = beside_now;
                    naming = λ e is. ap is_naming last_own ∙ name ∙ ap is_asked_names (sym (subst (λ (x : CurrentCall). x.stage ≡ AskedNames) (same_some waiting.current e (sym waiting.is_open ∙ is)) waiting.stage_is));
                    settings = name_step.config ∙ own.settings;
                    now = (let at_moment = name_step.now in let early = max-le own.now reached in omega (arith, at_moment, early));
                  }) all,
            )

        name_done : Left config trace greatest clients sent l ss m requests h all k index (answered_trace client d.answer calling_trace) d.client (option_to_list d.sent)
        name_done = (n1, later, name_done_at.0, name_done_at.1)

        -- under no number

        abbrev unasked : Requests
        unasked = with_request requests client None

        begun : Allows m (Invoke client c) × AreAlike l (lasting config.skew_ms greatest ss) n1 unasked × ((x : Message) → (client_number x.receiver ≡ client → IsOfOther x.body None) → IsTold m requests x → IsTold n1 unasked x)
        begun = calls_begin l (lasting config.skew_ms greatest ss) m requests client None c h.alike idle (λ x is same. absurd (none-some x.number same))

        of_none : (b : Body) → IsOfOther b None
        of_none (body.Named named reply) = λ same. none-some named same
        of_none other = tt

        not_none : (b : Body) → IsNotUnder config trace greatest sent l ss m requests h client m ([], tt, refl, refl) None b
        not_none (body.Look asked e) = λ same. none-some asked same
        not_none other = tt

        abbrev Begun : Type 0
        Begun = IsNamesBeside config calling_trace greatest sent l ss n1 unasked × ((q : ℕ) → (q ≡ client → ⊥) → IsLeft (m.clients q) (n1.clients q))

        names1 : Begun
        names1 =
            begins_call config trace greatest sent l ss m requests h client n1 (single m (Invoke client c) idle refl) c None name refl begun.1 (λ x is. begun.2 x (λ _. of_none x.body) (h.told x is)) idle
            (λ x is from. not_none x.body) (λ x q is same. absurd (none-some q same))

        pub name_down_at : LeftTo n1 unasked calling_trace (stopped_client s) []
        name_down_at = (
          says_else config calling_trace greatest sent l ss n1 unasked names1.0 k [] (λ x is. none_sent x is),
          one_on config trace calling_trace greatest clients m n1 requests unasked index (stopped_client s) names1.1 (λ q not. put_other client None requests q not) last_others (λ on. absurd (true≢false (sym on))) all,
        )

        name_down : Left config trace greatest clients sent l ss m requests h all k index calling_trace (stopped_client s) []
        name_down = (n1, unasked, name_down_at.0, name_down_at.1)

        -- refused for want of memory

        abbrev reply : Answer
        reply = answer.Refused NoMemory

        abbrev call1 : OpenCall
        call1 = record { number = suc (m.clients client).call_count; asked = asked_now m client c; has_begun = false; has_locks = false; outcomes = []; offers = []; pieces = []; lengths = [] }

        open1 : (n1.clients client).open_call ≡ Some call1
        open1 = ap (λ (x : Client). x.open_call) (put_same client (calling m client c) m.clients)

        pub given : Allows n1 (Return client reply)
        given = (name_calls_may_give_up n1 client call1 open1 name).1 refl

        abbrev n2 : Machine
        n2 = after n1 (Return client reply)

        unasked_own : unasked client ≡ None
        unasked_own = put_same client None requests

        none_held : (t : PendingSnapshot) → HoldsLocks n1 unasked t → (t.client == client) ≡ false
        none_held t holds = by_test (t.client == client) refl
          where
            by_test : (b : Bool) → (t.client == client) ≡ b → (t.client == client) ≡ false
            by_test false is = is
            by_test true is = absurd (none-some t.number (sym unasked_own ∙ ap unasked (sym (eqb-true t.client client is)) ∙ holds.waiting.number_is))

        none_of : (xs : List PendingSnapshot) → AllByRecursion (HoldsLocks n1 unasked) xs → AllByRecursion (λ t. (t.client == client) ≡ false) xs
        none_of [] held = tt
        none_of (t ∷ xs) held = (none_held t held.0, none_of xs held.1)

        clock2 : n2.clock ≡ n1.clock
        clock2 = at_some (λ (n : Machine). n.clock ≡ n1.clock) (λ (x : OpenCall). returned n1 client x reply) n1 (n1.clients client).open_call call1 open1 refl

        settings2 : n2.config ≡ n1.config
        settings2 = at_some (λ (n : Machine). n.config ≡ n1.config) (λ (x : OpenCall). returned n1 client x reply) n1 (n1.clients client).open_call call1 open1 refl

        still_known : (b : Body) → IsKnown l.kept n1 unasked client b → IsKnown l.kept n2 unasked client b
        still_known (body.Name asked deadline e) g = (
          g.0,
          ⊎_elim
              (λ old. inl old)
              (λ rest. ⊎_elim
              (λ late. let skew : n2.config.skew_ms ≡ n1.config.skew_ms = ap (λ (y : Config). y.skew_ms) settings2 in let clock = clock2 in inr (inl (omega (arith, late, skew, clock))))
              (λ open_call. absurd (none-some asked (sym unasked_own ∙ (open_call.1).number_is)))
              rest)
              g.1,
        )
        still_known (body.Look asked e) g = (g.0, λ y w. absurd (none-some asked (sym unasked_own ∙ w.number_is)))
        still_known other g = tt

        ended : AreAlike l (filter (λ t. not (t.client == client)) (lasting config.skew_ms greatest ss)) n2 unasked × ((x : Message) → IsTold n1 unasked x → IsTold n2 unasked x)
        ended = answers_end_calls l (lasting config.skew_ms greatest ss) n1 unasked client (Return client reply) begun.1 refl given

        closed : ((n2.clients client).open_call ≡ None) × ((n2.clients client).fd_count ≡ s.fd_count)
        closed =
            let before : (n1.clients client).fd_count ≡ s.fd_count = ap (λ (x : Client). x.fd_count) (put_same client (calling m client c) m.clients) ∙ (own.beside).count in
            at_some (λ (n : Machine). ((n.clients client).open_call ≡ None) × ((n.clients client).fd_count ≡ s.fd_count)) (λ (x : OpenCall). returned n1 client x reply) n1 (n1.clients client).open_call call1 open1
            (ap (λ (x : Client). x.open_call) (put_same client (answered n1 client call1 reply) n1.clients), ap (λ (x : Client). x.fd_count) (put_same client (answered n1 client call1 reply) n1.clients) ∙ before)

        last_then : (q : ℕ) → last_calls none_called (calling_trace ++ Answered client reply ∷ []) q ≡ last_calls none_called calling_trace q
        last_then q = ap (λ (f : LastCalls). f q) (calls_grow none_called calling_trace (Answered client reply))

        pub name_refused_at : LeftTo n2 unasked (calling_trace ++ Answered client reply ∷ []) refused.client []
        name_refused_at =
            let names2 = ends_call config calling_trace greatest sent l ss n1 unasked names1.0 client n2 (single n1 (Return client reply) given refl) reply refl ended.0 ended.1
            (none_of (lasting config.skew_ms greatest ss) (begun.1).locks) (ap is_naming last_own ∙ name)
            (λ x is from. still_known x.body (subst (λ (q : ℕ). IsKnown l.kept n1 unasked q x.body) from (names1.0.known x is))) in (
              says_else config (calling_trace ++ Answered client reply ∷ []) greatest sent l ss n2 unasked names2.0 k [] (λ x is. none_sent x is),
              one_on config trace (calling_trace ++ Answered client reply ∷ []) greatest clients m n2 requests unasked index refused.client
                  (λ q not. left_then (m.clients q) (n1.clients q) (n2.clients q) (names1.1 q not) (names2.1 q not)) (λ q not. put_other client None requests q not) (λ q not. last_then q ∙ last_others q not)
                  (λ _. record { beside = record { call = closed.0; count = closed.1 }; naming = λ e is. none_some e is; settings = own.settings; now = max-le own.now reached }) all,
            )

        name_refused : Left config trace greatest clients sent l ss m requests h all k index (calling_trace ++ Answered client reply ∷ []) refused.client []
        name_refused = (n2, unasked, name_refused_at.0, name_refused_at.1)

        name_ends : (e : Ending) → LeftBy calling_trace (client_ends s d e)
        name_ends Goes = name_done
        name_ends Lost = name_down
        name_ends (Stops made) = name_down

        refused_ends : (e : Ending) → LeftBy calling_trace (client_ends s refused e)
        refused_ends Goes = name_refused
        refused_ends Lost = name_down
        refused_ends (Stops made) = name_down

        name_call : (choice : Choice) → LeftBy calling_trace (client_call s moment c choice)
        name_call choice =
            on_cond (LeftBy calling_trace) (first_is_true choice.refused) (client_ends s refused choice.ending) (client_ends s d choice.ending) (λ _. refused_ends choice.ending) (λ _. name_ends choice.ending)

      pub calls_beside : (choice : Choice) → LeftBy (trace ++ Called (suc index) c ∷ []) (client_call s moment c choice)
      calls_beside choice = by_name (is_name_call c) refl
        where
          by_name : (b : Bool) → is_name_call c ≡ b → LeftBy calling_trace (client_call s moment c choice)
          by_name true name = name_call name choice
          by_name false plain = file_call plain choice
