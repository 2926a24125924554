-- The machine beside a cell as one client takes a step or makes a call.
use Rattle.std.proofs.Common.{◌≡◌, ◌⊎◌, ⊎_elim, ℕ, suc, ◌+◌, ◌≤◌, Bool, true, false, cond, max, List, [], ◌∷◌, ◌++◌, Option, Some, None, refl, sym, ap, subst, ◌∙◌, inl, inr, arith}
use Rattle.std.specs.Prelude.{◌==◌, not, filter, Contains, IsTrue}
use Rattle.std.specs.List.{AllByRecursion}
use Rattle.std.specs.Option.{option_to_list}
use Rattle.std.proofs.lemmas.Bool.{eqb-true, ltb-true}
use Rattle.std.proofs.lemmas.List.{append-nil}
use Rattle.std.proofs.lemmas.Option.{none-some}
use Rattle.std.proofs.Math.Nat.{max-le}
use Rattle.std.specs.FinMap as table
use Rattle.gfs_types.specs.declared.config.Config.{Config}
use Rattle.gfs_types.specs.declared.ids.Node.{Node}
use Rattle.gfs_types.specs.declared.ids.Node.TheVariants as node
use Rattle.gfs_types.specs.declared.call.Call.{Call}
use Rattle.gfs_types.specs.declared.answer.Answer.{Answer}
use Rattle.messages.specs.declared.event.NodeInput.{NodeInput}
use Rattle.messages.specs.declared.event.NodeInput.TheVariants as input
use Rattle.messages.specs.declared.message.Body.{Body}
use Rattle.messages.specs.declared.message.Body.TheVariants as body
use Rattle.messages.specs.declared.message.Message.{Message}
use Rattle.messages.specs.declared.message.NameReply.{NameReply}
use Rattle.messages.specs.declared.message.NameReply.TheVariants.{Opened, Answered as AnsweredWith}
use Rattle.relaxed_file.specs.Machine.{Machine, OpenCall, Outcome, new_machine}
use Rattle.relaxed_file.specs.NameStep.{is_name_call, is_look}
use Rattle.relaxed_file.specs.Run.{Visible, Called, Answered, visible}
use Rattle.relaxed_file.proofs.Tables.{put_same, put_other, from_some}
use Rattle.machine_names.specs.NameRuns.{LeadsByNames}
use Rattle.machine_names.proofs.Runs.{name_runs_go_on}
use Rattle.machine_names.specs.UnseenRuns.{IsLeft}
use Rattle.machine_names.specs.NameTraces.{LastCalls, none_called, last_calls, is_naming, name_trace, IsNotOf, clock_after}
use Rattle.machine_names.proofs.Seen.{left_same, unseen_clients_are_left, clock_and_settings_are_seen}
use Rattle.machine_names.proofs.Traces.{part_grows, calls_grow}
use Rattle.client_state.specs.declared.call.CurrentCall.{CurrentCall}
use Rattle.client_state.specs.declared.call.Stage.{Stage}
use Rattle.client_state.specs.declared.call.Stage.TheVariants.{AskedNames}
use Rattle.protocol.specs.Tables.{element_at, with_at}
use Rattle.protocol.specs.Sending.{the_client, client_number}
use Rattle.protocol.specs.Logged.{Logged, KeptCall}
use Rattle.protocol.specs.Master.{PendingSnapshot}
use Rattle.protocol.specs.Client.{ClientState, ClientDoing}
use Rattle.protocol.specs.ClientStep.{client_goes}
use Rattle.protocol.specs.World.{stamped}
use Rattle.laws_base.proofs.Steps.{none_some, same_some, same_or_not}
use Rattle.laws_base.proofs.MessagesSent.{IsSent, none_sent, sent_last}
use Rattle.laws_base.specs.Attempts.{IsRequestOf}
use Rattle.laws_base.proofs.ClientNumbers.{goes_numbered}
use Rattle.laws_base.proofs.RequestsOnce.{IsNumbered}
use Rattle.laws_base.specs.NameCalls.{AsksForTheCall}
use Rattle.laws_names.specs.KeptAnswers.{IsNameOf, WereAskedFor}
use Rattle.laws_names.specs.NamedReplies.{IsRequestUnder}
use Rattle.laws_names.specs.NameWords.{HasAsked, IsAnswerToAsked, IsNameBy, HasItsRequest}
use Rattle.laws_base.specs.FileCalls.{IsOfFile, IsFileCall, IsFileStep, IsForTheCall, IsNameStep}
use Rattle.laws_base.proofs.NameSteps.{name_calls_ask_again}
use Rattle.laws_names.specs.NameAnswers as waits
use Rattle.laws_names.specs.NameAnswers.{Tells, IsCaused, IsOver}
use Rattle.laws_names.proofs.Steps.{name_calls_are_answered_as_told}
use Rattle.laws_names.specs.Alike.{Requests, AreAlike, IsWaiting, HoldsLocks}
use Rattle.laws_names.specs.Followed.{outcome_told, IsToldTo, IsTold}
use Rattle.laws_names.proofs.Moves.{kept_same}
use Rattle.laws_names.specs.NameClients.{with_request}
use Rattle.laws_names.specs.FollowedClients.{IsBesideAt, IsBesideCall, IsBesideClient, IsInputTold, answer_shown, snapshots_left}
use Rattle.laws_names.proofs.FollowedClientsCalls.{name_calls_are_followed}
use Rattle.laws_names.proofs.OpenRequestsLemmas.{answered_names_are_kept}
use Rattle.laws_names.specs.Beside.{lasts, lasting, IsKnown, IsNamesBeside, is_asked_names, IsClientBeside, AreClientsBeside, Beside, answered_trace, ComesTo}
use Rattle.laws_names.proofs.BesideClientsBeside.{settings_of, known_on, one_on, moved, says_more, says_else}

all_pass : {X : Type 0} (test : X → Bool) (xs : List X) → AllByRecursion (λ x. test x ≡ true) xs → filter test xs ≡ xs
all_pass test [] all = refl
all_pass {X} test (x ∷ xs) all = ap (λ (b : Bool). cond b (x ∷ filter test xs) (filter test xs)) all.0 ∙ ap (λ (ys : List X). x ∷ ys) (all_pass test xs all.1)

pub sent_one : (o : Option Message) (m : Message) → IsSent (option_to_list o) m → o ≡ Some m
sent_one None m h = none_sent m h
sent_one (Some x) m h = ⊎_elim (λ none. none_sent m none) (λ same. ap (λ (y : Message). Some y) same) (sent_last [] x m h)

-- a sender of this number is that client
pub the_sender : (n : Node) (index : ℕ) → client_number n ≡ suc index → n ≡ the_client (suc index)
the_sender node.Master index is = absurd (omega (arith, is))
the_sender (node.Server x) index is = absurd (omega (arith, is))
the_sender (node.Client c) index is = ap (λ (k : ℕ). the_client k) is

-- a call that is seen begins or ends

module _ (config : Config) (trace : List Visible) (greatest : ℕ) (sent : List Message) (l : Logged) (ss : List PendingSnapshot) (m : Machine) (requests : Requests) (h : IsNamesBeside config trace greatest sent l ss m requests) where
  -- what is seen is of calls on files
  pub reseen : (more : List Visible) → name_trace more ≡ name_trace trace → IsNamesBeside config more greatest sent l ss m requests
  reseen more same = record { run = h.run; seen = h.seen ∙ sym same; clock = h.clock; alike = h.alike; told = h.told; known = h.known; later = h.later }

  file_answered : (client : ℕ) (a : Option Answer) → is_naming (last_calls none_called trace client) ≡ false → name_trace (answered_trace client a trace) ≡ name_trace trace
  file_answered client None plain = refl
  file_answered client (Some reply) plain =
      part_grows none_called trace (Answered client reply) ∙ ap (λ (b : Bool). name_trace trace ++ cond b (Answered client reply ∷ []) []) plain ∙ append-nil (name_trace trace)

  pub file_called : (client : ℕ) (c : Call) → is_name_call c ≡ false → name_trace (trace ++ Called client c ∷ []) ≡ name_trace trace
  file_called client c plain = part_grows none_called trace (Called client c) ∙ ap (λ (b : Bool). name_trace trace ++ cond b (Called client c ∷ []) []) plain ∙ append-nil (name_trace trace)

  module _ (client : ℕ) (n : Machine) (run : LeadsByNames m n) where
    abbrev pub AreOthersLeft : Type 0
    AreOthersLeft = (q : ℕ) → (q ≡ client → ⊥) → IsLeft (m.clients q) (n.clients q)

    pub clock_left : (x : Visible) → visible run.0 ≡ x ∷ [] → clock_after m.clock (x ∷ []) ≡ m.clock → n.clock ≡ m.clock
    clock_left x seen stays = (clock_and_settings_are_seen m n run).0 ∙ ap (λ (xs : List Visible). clock_after m.clock xs) seen ∙ stays

    others_left : (x : Visible) → visible run.0 ≡ x ∷ [] → ((q : ℕ) → (q ≡ client → ⊥) → IsNotOf q x) → AreOthersLeft
    others_left x seen apart q not = unseen_clients_are_left m n run q (subst (λ (xs : List Visible). AllByRecursion (IsNotOf q) xs) (sym seen) (apart q not, tt))

    -- a call is answered
    pub ends_call : (reply : Answer) → visible run.0 ≡ Answered client reply ∷ [] → AreAlike l (filter (λ t. not (t.client == client)) (lasting config.skew_ms greatest ss)) n requests
        → ((x : Message) → IsTold m requests x → IsTold n requests x) → AllByRecursion (λ t. (t.client == client) ≡ false) (lasting config.skew_ms greatest ss)
        → is_naming (last_calls none_called trace client) ≡ true → ((x : Message) → IsSent sent x → client_number x.sender ≡ client → IsKnown l.kept n requests client x.body)
        → IsNamesBeside config (trace ++ Answered client reply ∷ []) greatest sent l ss n requests × AreOthersLeft
    ends_call reply seen alike told none_of naming over =
        let both = name_runs_go_on (new_machine config) m n h.run run in
        let clock : n.clock ≡ m.clock = clock_left (Answered client reply) seen refl in
        let left : AreOthersLeft = others_left (Answered client reply) seen (λ q not. not) in
        let pass = all_pass (λ t. not (t.client == client)) (lasting config.skew_ms greatest ss) (each_passes (lasting config.skew_ms greatest ss) none_of) in (
          record {
            run = both.0;
            seen = both.1 ∙ ap (λ (xs : List Visible). visible (h.run).0 ++ xs) seen ∙ ap (λ (xs : List Visible). xs ++ Answered client reply ∷ []) h.seen
                ∙ ap (λ (b : Bool). name_trace trace ++ cond b (Answered client reply ∷ []) []) (sym naming) ∙ sym (part_grows none_called trace (Answered client reply));
            clock = clock ∙ h.clock;
            alike = subst (λ (xs : List PendingSnapshot). AreAlike l xs n requests) pass alike;
            told = λ x is. told x (h.told x is);
            known = λ x is. ⊎_elim
                (λ same. subst (λ (q : ℕ). IsKnown l.kept n requests q x.body) (sym same) (over x is same))
                (λ apart. known_on m n requests requests (client_number x.sender) (left (client_number x.sender) apart) refl l.kept x.body (omega (arith, clock)) (clock_and_settings_are_seen m n run).1 (h.known x is))
                (same_or_not (client_number x.sender) client);
            later = h.later;
          },
          left,
        )
      where
        each_passes : (xs : List PendingSnapshot) → AllByRecursion (λ t. (t.client == client) ≡ false) xs → AllByRecursion (λ t. not (t.client == client) ≡ true) xs
        each_passes [] all = tt
        each_passes (x ∷ xs) all = (ap not all.0, each_passes xs all.1)

    -- a Look of another number
    abbrev pub IsNotUnder : Option ℕ → Body → Type 0
    IsNotUnder number (body.Look asked c) = number ≡ Some asked → ⊥
    IsNotUnder number other = Unit {0}

    -- a call begins
    pub begins_call : (c : Call) (number : Option ℕ) → is_name_call c ≡ true → visible run.0 ≡ Called client c ∷ [] → AreAlike l (lasting config.skew_ms greatest ss) n (with_request requests client number)
        → ((x : Message) → IsSent sent x → IsTold n (with_request requests client number) x) → (m.clients client).open_call ≡ None
        → ((x : Message) → IsSent sent x → client_number x.sender ≡ client → IsNotUnder number x.body) → ((k : KeptCall) (q : ℕ) → table.get l.kept client ≡ Some k → number ≡ Some q → k.number ≤ q)
        → IsNamesBeside config (trace ++ Called client c ∷ []) greatest sent l ss n (with_request requests client number) × AreOthersLeft
    begins_call c number name seen alike told idle fresh least =
        let both = name_runs_go_on (new_machine config) m n h.run run in
        let clock : n.clock ≡ m.clock = clock_left (Called client c) seen refl in
        let left : AreOthersLeft = others_left (Called client c) seen (λ q not. not) in (
          record {
            run = both.0;
            seen = both.1 ∙ ap (λ (xs : List Visible). visible (h.run).0 ++ xs) seen ∙ ap (λ (xs : List Visible). xs ++ Called client c ∷ []) h.seen
                ∙ ap (λ (b : Bool). name_trace trace ++ cond b (Called client c ∷ []) []) (sym name) ∙ sym (part_grows none_called trace (Called client c));
            clock = clock ∙ h.clock;
            alike = alike;
            told = told;
            known = λ x is. ⊎_elim
                (λ same. subst (λ (q : ℕ). IsKnown l.kept n later q x.body) (sym same) (own clock x.body (fresh x is same) (subst (λ (q : ℕ). IsKnown l.kept m requests q x.body) same (h.known x is))))
                (λ apart. known_on m n requests later (client_number x.sender) (left (client_number x.sender) apart) (put_other client number requests (client_number x.sender) apart) l.kept x.body (omega (arith, clock))
                (clock_and_settings_are_seen m n run).1 (h.known x is))
                (same_or_not (client_number x.sender) client);
            later = λ q asked k is at. ⊎_elim
                (λ same. least k asked (ap (λ (i : ℕ). table.get l.kept i) (sym same) ∙ is) (sym (put_same client number requests) ∙ ap later (sym same) ∙ at))
                (λ apart. h.later q asked k is (sym (put_other client number requests q apart) ∙ at))
                (same_or_not q client);
          },
          left,
        )
      where
        later : Requests
        later = with_request requests client number

        own : n.clock ≡ m.clock → (b : Body) → IsNotUnder number b → IsKnown l.kept m requests client b → IsKnown l.kept n later client b
        own clock (body.Name asked deadline x) other g = (
          g.0,
          ⊎_elim
              (λ old. inl old)
              (λ rest. ⊎_elim
              (λ late.
              let skew : n.config.skew_ms ≡ m.config.skew_ms = ap (λ (y : Config). y.skew_ms) (clock_and_settings_are_seen m n run).1 in
              inr (inl (omega (arith, late, skew, clock))))
              (λ open_call. absurd (none-some open_call.0 (sym idle ∙ (open_call.1).is_open)))
              rest)
              g.1,
        )
        own clock (body.Look asked x) other g = (g.0, λ y w. absurd (other (sym (put_same client number requests) ∙ w.number_is)))
        own clock b other g = tt

-- what is known of a client by the messages that were sent, and of what the log keeps
pub record IsKnownClient (sent : List Message) (l : Logged) (ss : List PendingSnapshot) (index : ℕ) (s : ClientState) : Type 0 where
  pub numbered : IsNumbered sent index s
  pub asks : (x : Message) → IsSent sent x → x.sender ≡ the_client (suc index) → AsksForTheCall s x.body
  pub answers : (x : Message) → IsSent sent x → IsAnswerToAsked sent (client_number x.receiver) x.body
  pub kept : WereAskedFor sent l.kept
  pub waits : AllByRecursion (HasItsRequest sent) ss

module _ (config : Config) (trace : List Visible) (greatest : ℕ) (clients : List ClientState) (sent : List Message) (l : Logged) (ss : List PendingSnapshot) (m : Machine) (requests : Requests)
    (h : IsNamesBeside config trace greatest sent l ss m requests) (all : AreClientsBeside config trace greatest clients m requests) (k index : ℕ)
  where
    abbrev client : ℕ
    client = suc index

    abbrev pub Left : List Visible → ClientState → List Message → Type 0
    Left more t ms = Beside config more greatest (with_at clients index t) (sent ++ stamped k ms) l ss

    -- nothing is said, and the machine stays
    abbrev pub LeftAt : List Visible → ClientState → List Message → Type 0
    LeftAt more t ms = IsNamesBeside config more greatest (sent ++ stamped k ms) l ss m requests × AreClientsBeside config more greatest (with_at clients index t) m requests

    pub stays_at : (t : ClientState) → (IsTrue t.up → IsClientBeside config trace greatest t m requests client) → LeftAt trace t []
    stays_at t own = (
      says_else config trace greatest sent l ss m requests h k [] (λ x none. none_sent x none),
      one_on config trace trace greatest clients m m requests requests index t (λ q not. left_same (m.clients q)) (λ q not. refl) (λ q not. refl) own all,
    )

    pub stays_with : (t : ClientState) → (IsTrue t.up → IsClientBeside config trace greatest t m requests client) → Left trace t []
    stays_with t own = let there = stays_at t own in (m, requests, there.0, there.1)

    pub answered_last : (a : Option Answer) (q : ℕ) → last_calls none_called (answered_trace client a trace) q ≡ last_calls none_called trace q
    answered_last None q = refl
    answered_last (Some reply) q = ap (λ (f : LastCalls). f q) (calls_grow none_called trace (Answered client reply))

    -- a call on a file

    file_at : (c : CurrentCall) (st : Stage) → IsOfFile st → (m.clients client).open_call ≡ None → IsBesideAt m requests client c st
    file_at c AskedNames of idle = absurd of
    file_at c other of idle = idle

    file_beside : (o : Option CurrentCall) (a : Option Answer) → IsFileCall o a → (m.clients client).open_call ≡ None → IsBesideCall m requests client o
    file_beside None a is idle = idle
    file_beside (Some c) a is idle = file_at c c.stage is.0 idle

    of_file : (st : Stage) → IsOfFile st → is_asked_names st ≡ false
    of_file AskedNames of = absurd of
    of_file other of = refl

    file_stage : (o : Option CurrentCall) (a : Option Answer) (c : CurrentCall) → IsFileCall o a → o ≡ Some c → is_asked_names c.stage ≡ false
    file_stage None a c is now = none_some c now
    file_stage (Some e) a c is now = subst (λ (x : CurrentCall). is_asked_names x.stage ≡ false) (same_some e c now) (of_file e.stage is.0)

    pub file_goes_at : (s : ClientState) (moment : ℕ) (d : ClientDoing) → IsClientBeside config trace greatest s m requests client → moment ≤ greatest → IsFileStep s moment d → (m.clients client).open_call ≡ None
        → is_naming (last_calls none_called trace client) ≡ false → LeftAt (answered_trace client d.answer trace) d.client (option_to_list d.sent)
    file_goes_at s moment d own reached step idle plain = (
      says_else config (answered_trace client d.answer trace) greatest sent l ss m requests
          (reseen config trace greatest sent l ss m requests h (answered_trace client d.answer trace) (file_answered config trace greatest sent l ss m requests h client d.answer plain)) k (option_to_list d.sent)
          (λ x is. step.says x (sent_one d.sent x is)),
      one_on config trace (answered_trace client d.answer trace) greatest clients m m requests requests index d.client (λ q not. left_same (m.clients q)) (λ q not. refl) (λ q not. answered_last d.answer q)
          (λ _. record {
            beside = record { call = file_beside d.client.current d.answer step.call idle; count = (own.beside).count ∙ sym step.count };
            naming = λ c is. ap is_naming (answered_last d.answer client) ∙ plain ∙ sym (file_stage d.client.current d.answer c step.call is);
            settings = step.config ∙ own.settings;
            now = (let at = step.now in let low = max-le own.now reached in omega (arith, at, low));
          }) all,
    )

    pub file_goes : (s : ClientState) (moment : ℕ) (d : ClientDoing) → IsClientBeside config trace greatest s m requests client → moment ≤ greatest → IsFileStep s moment d → (m.clients client).open_call ≡ None
        → is_naming (last_calls none_called trace client) ≡ false → Left (answered_trace client d.answer trace) d.client (option_to_list d.sent)
    file_goes s moment d own reached step idle plain = let there = file_goes_at s moment d own reached step idle plain in (m, requests, there.0, there.1)

    -- what a client asks of names is known of its open call
    pub asks_known : (t : ClientState) (n : Machine) (later : Requests) (q : ℕ) (b : Body) → IsBesideClient t n later client → IsForTheCall t b → IsToldTo n later q b × IsKnown l.kept n later client b
    asks_known t n later q (body.Name number deadline c) beside f =
        let e : CurrentCall = (f.1).0 in
        let open_at : IsBesideAt n later client e AskedNames =
        subst (λ (st : Stage). IsBesideAt n later client e st) (f.1).2 (subst (λ (o : Option CurrentCall). IsBesideCall n later client o) (f.1).1 beside.call) in
        (tt, (f.0, inr (inr (open_at.0, subst (λ (i : ℕ). IsWaiting n later client i open_at.0) (f.1).3 open_at.1, open_at.2 ∙ (f.1).4))))
    asks_known t n later q (body.Look number c) beside f =
        let e : CurrentCall = (f.1).0 in
        let open_at : IsBesideAt n later client e AskedNames =
        subst (λ (st : Stage). IsBesideAt n later client e st) (f.1).2 (subst (λ (o : Option CurrentCall). IsBesideCall n later client o) (f.1).1 beside.call) in
        (tt, (f.0, λ x w. ap (λ (y : OpenCall). y.asked.call) (from_some (sym w.is_open ∙ (open_at.1).is_open)) ∙ open_at.2 ∙ (f.1).4))
    asks_known t n later q (body.Named number reply) beside f = absurd f
    asks_known t n later q other beside f = (tt, tt)

    -- of the client itself

    module _ (s : ClientState) (up : IsTrue s.up) (at : element_at clients index ≡ Some s) (facts : IsKnownClient sent l ss index s) where
      abbrev own : IsClientBeside config trace greatest s m requests client
      own = all index s at up

      pub client_asked : (number : ℕ) → HasAsked sent client number → number ≤ s.call_count
      client_asked number asked = by_body (asked.1).body (facts.numbered.used up asked.0 asked.1 asked.2 (the_sender (asked.1).sender index asked.3)) asked.4
        where
          by_body : (b : Body) → IsRequestOf s b → IsRequestUnder number b → number ≤ s.call_count
          by_body (body.Name asked_now deadline c) used is = omega (arith, used, is)
          by_body (body.Look asked_now c) used is = omega (arith, used, is)
          by_body other used is = absurd is

      pub kept_asked : (x : KeptCall) → table.get l.kept client ≡ Some x → x.number ≤ s.call_count
      kept_asked x is =
          let was = facts.kept client x is in
          by_body (was.1).body (facts.numbered.used up was.0 was.1 was.2 (the_sender (was.1).sender index was.3)) was.4
        where
          by_body : (b : Body) → IsRequestOf s b → IsNameOf x.number b → x.number ≤ s.call_count
          by_body (body.Name asked_now deadline c) used same = omega (arith, used, same)
          by_body other used same = absurd same

      sender_of : (d : ClientDoing) (x : Message) → x.sender ≡ the_client s.id → client_number x.sender ≡ client
      sender_of d x from = ap client_number from ∙ facts.numbered.id

      -- an open name call

      module _ (moment : ℕ) (reached : moment ≤ greatest) (i : NodeInput) (came : ComesTo sent client i) (c : CurrentCall) (is_open : s.current ≡ Some c) (stage_is : c.stage ≡ AskedNames) where
        abbrev pub d : ClientDoing
        d = client_goes s moment i

        pub here : IsBesideAt m requests client c AskedNames
        here = subst (λ (st : Stage). IsBesideAt m requests client c st) stage_is (subst (λ (o : Option CurrentCall). IsBesideCall m requests client o) is_open (own.beside).call)

        pub naming : is_naming (last_calls none_called trace client) ≡ true
        naming = own.naming c is_open ∙ ap is_asked_names stage_is

        input_told : (j : NodeInput) → ComesTo sent client j → IsInputTold m requests client j
        input_told (input.Deliver x) to = (ap client_number to.1, h.told x to.0)
        input_told input.Tick to = tt

        pub step : IsNameStep s moment d
        step = name_calls_ask_again s moment i c is_open stage_is

        pub now_early : d.client.now ≤ greatest
        now_early = let at_moment = step.now in let low = max-le own.now reached in omega (arith, at_moment, low)

        pub heard : (n : Machine) → IsBesideClient d.client n requests client → (x : Message) → IsSent (option_to_list d.sent) x → IsTold n requests x × IsKnown l.kept n requests (client_number x.sender) x.body
        heard n beside x is =
            let said : d.sent ≡ Some x = sent_one d.sent x is in
            let from = ((goes_numbered s moment i facts.numbered.named).says x said).0 in
            let both = asks_known d.client n requests (client_number x.receiver) x.body beside (step.says x said) in
            (both.0, subst (λ (q : ℕ). IsKnown l.kept n requests q x.body) (sym (sender_of d x from)) both.1)

        -- why its requests are old once it was answered, and its snapshots are given up

        is_late : c.deadline.0 + s.config.skew_ms ≤ max s.now moment → c.deadline.0 + m.config.skew_ms ≤ m.clock
        is_late late =
            let clock = h.clock in
            let low = max-le own.now reached in
            let one : s.config.skew_ms ≡ config.skew_ms = ap (λ (x : Config). x.skew_ms) own.settings in
            let two : m.config.skew_ms ≡ config.skew_ms = ap (λ (x : Config). x.skew_ms) (settings_of config trace greatest sent l ss m requests h) in
            omega (arith, late, clock, low, one, two)

        told_outcome : (j : NodeInput) → ComesTo sent client j → (r : NameReply) → Tells j c.number r → Contains (here.0).outcomes (outcome_told r)
        told_outcome (input.Deliver x) to r tells =
            subst (λ (b : Body). IsToldTo m requests client b) tells (subst (λ (q : ℕ). IsToldTo m requests q x.body) (ap client_number to.1) (h.told x to.0)) here.0 here.1
        told_outcome input.Tick to r tells = absurd tells

        -- the call has an outcome, or is past its last deadline
        abbrev pub WhyOver : Type 0
        WhyOver = ((o : Outcome) × Contains (here.0).outcomes o) ⊎ (c.deadline.0 + m.config.skew_ms ≤ m.clock)

        pub why_over : (reply : Answer) → IsCaused s moment i d c reply → WhyOver
        why_over reply caused = ⊎_elim
            (λ told. inl (outcome_told (AnsweredWith reply), told_outcome i came (AnsweredWith reply) told.0))
            (λ rest. ⊎_elim (λ opened. inl (outcome_told (Opened opened.0 (opened.1).0), told_outcome i came (Opened opened.0 (opened.1).0) (opened.1).1)) (λ late. inr (is_late late.1)) rest)
            caused

        nothing : (xs : List Outcome) (o : Outcome) → xs ≡ [] → Contains xs o → ⊥
        nothing [] o none there = let below = there.1 in omega (arith, below)
        nothing (x ∷ xs) o none there = let both : (x ∷ xs) ≡ [] = none in cc

        -- a request under the call's number, by its deadline
        in_time : (x : Message) (number deadline : ℕ) → IsSent sent x → client_number x.sender ≡ client → (b : Body) → x.body ≡ b → IsNameBy number deadline b → number ≡ c.number → deadline ≤ c.deadline.0
        in_time x number deadline is from (body.Name asked until e) same by number_is =
            let own_call = subst (λ (b : Body). AsksForTheCall s b) same (facts.asks x is (the_sender x.sender index from)) in
            let low = (own_call.1 c is_open (sym number_is ∙ sym by.0)).1 in
            let until_is = by.1 in
            omega (arith, low, until_is)
        in_time x number deadline is from other same by number_is = absurd by

        not_own : WhyOver → (t : PendingSnapshot) → HasItsRequest sent t → HoldsLocks m requests t → lasts config.skew_ms greatest t ≡ true → (t.client == client) ≡ false
        not_own why t asked holds lasting_now = by_test (t.client == client) refl
          where
            own_snapshot : t.client ≡ client → ⊥
            own_snapshot same =
                let current_is : holds.current ≡ here.0 = from_some (sym holds.waiting.is_open ∙ ap (λ (q : ℕ). (m.clients q).open_call) same ∙ (here.1).is_open) in
                let number_is : t.number ≡ c.number = from_some (sym holds.waiting.number_is ∙ ap requests same ∙ (here.1).number_is) in
                ⊎_elim
                (λ has. nothing (holds.current).outcomes has.0 holds.untaken (subst (λ (x : OpenCall). Contains x.outcomes has.0) (sym current_is) has.1))
                (λ late.
                let low = in_time asked.1 t.number t.deadline (asked.0, asked.2) (asked.3 ∙ same) (asked.1).body refl asked.4 number_is in
                let long = ltb-true greatest (t.deadline + config.skew_ms) lasting_now in
                let clock = h.clock in
                let skew : m.config.skew_ms ≡ config.skew_ms = ap (λ (x : Config). x.skew_ms) (settings_of config trace greatest sent l ss m requests h) in
                omega (arith, low, long, clock, late, skew))
                why

            by_test : (b : Bool) → (t.client == client) ≡ b → (t.client == client) ≡ false
            by_test false is = is
            by_test true is = absurd (own_snapshot (eqb-true t.client client is))

        pub none_of_own : WhyOver → (xs : List PendingSnapshot) → AllByRecursion (HasItsRequest sent) xs → AllByRecursion (HoldsLocks m requests) (lasting config.skew_ms greatest xs)
            → AllByRecursion (λ t. (t.client == client) ≡ false) (lasting config.skew_ms greatest xs)
        none_of_own why [] asked holds = tt
        none_of_own why (t ∷ xs) asked holds = by_test (lasts config.skew_ms greatest t) refl (λ g. none_of_own why xs asked.1 g) holds
          where
            by_test : (b : Bool) → lasts config.skew_ms greatest t ≡ b → (AllByRecursion (HoldsLocks m requests) (lasting config.skew_ms greatest xs) → AllByRecursion (λ y. (y.client == client) ≡ false) (lasting config.skew_ms greatest xs))
                → AllByRecursion (HoldsLocks m requests) (cond b (t ∷ lasting config.skew_ms greatest xs) (lasting config.skew_ms greatest xs))
                → AllByRecursion (λ y. (y.client == client) ≡ false) (cond b (t ∷ lasting config.skew_ms greatest xs) (lasting config.skew_ms greatest xs))
            by_test true is rest g = (not_own why t asked.0 g.0 is, rest g.1)
            by_test false is rest g = rest g

        pub over_known : WhyOver → (n : Machine) → n.clock ≡ m.clock → n.config ≡ m.config → (n.clients client).open_call ≡ None → (x : Message) → IsSent sent x → client_number x.sender ≡ client → IsKnown l.kept n requests client x.body
        over_known why n clock settings none x is from = by_body x.body refl (subst (λ (q : ℕ). IsKnown l.kept m requests q x.body) from (h.known x is))
          where
            by_body : (b : Body) → x.body ≡ b → IsKnown l.kept m requests client b → IsKnown l.kept n requests client b
            by_body (body.Look number e) same g = (g.0, λ y w. absurd (none-some y (sym none ∙ w.is_open)))
            by_body (body.Name number deadline e) same g = (
              g.0,
              ⊎_elim
                  (λ old. inl old)
                  (λ rest. ⊎_elim
                  (λ late. let skew : n.config.skew_ms ≡ m.config.skew_ms = ap (λ (y : Config). y.skew_ms) settings in inr (inl (omega (arith, late, skew, clock))))
                  (λ open_call.
                  let number_is : number ≡ c.number = from_some (sym (open_call.1).number_is ∙ (here.1).number_is) in
                  let current_is : here.0 ≡ open_call.0 = from_some (sym (here.1).is_open ∙ (open_call.1).is_open) in
                  ⊎_elim
                  (λ has.
                  let there : Contains (open_call.0).outcomes has.0 = subst (λ (y : OpenCall). Contains y.outcomes has.0) current_is has.1 in
                  let kept = answered_names_are_kept l (lasting config.skew_ms greatest ss) m requests client number open_call.0 has.0 h.alike open_call.1 (ap is_look open_call.2 ∙ g.0) there in
                  let same_number = kept.2 in
                  inl (kept.0, kept.1, omega (arith, same_number)))
                  (λ late.
                  let low = in_time x number deadline.0 is from x.body refl (subst (λ (b : Body). IsNameBy number deadline.0 b) (sym same) (refl, refl)) number_is in
                  let skew : n.config.skew_ms ≡ m.config.skew_ms = ap (λ (y : Config). y.skew_ms) settings in
                  inr (inl (omega (arith, late, low, skew, clock))))
                  why)
                  rest)
                  g.1,
            )
            by_body other same g = tt

        pub name_goes : Left (answered_trace client d.answer trace) d.client (option_to_list d.sent)
        name_goes = ⊎_elim goes_on over (name_calls_are_answered_as_told s moment i c is_open stage_is)
          where
            followed : (n : Machine) × (run : LeadsByNames m n) × (visible run.0 ≡ answer_shown client d.answer) × AreAlike l (snapshots_left client d.answer (lasting config.skew_ms greatest ss)) n requests
                × ((x : Message) → IsTold m requests x → IsTold n requests x) × IsBesideClient d.client n requests client
            followed = name_calls_are_followed l (lasting config.skew_ms greatest ss) m requests client s moment i c h.alike own.beside is_open stage_is (input_told i came)

            goes_on : waits.IsWaiting d c.number c.asked × (d.client.fd_count ≡ s.fd_count) → Left (answered_trace client d.answer trace) d.client (option_to_list d.sent)
            goes_on waiting =
                let f = followed in
                let none : d.answer ≡ None = (waiting.0).unanswered in
                let unseen : visible (f.1).0 ≡ [] = f.2 ∙ ap (λ (a : Option Answer). answer_shown client a) none in
                let alike = subst (λ (a : Option Answer). AreAlike l (snapshots_left client a (lasting config.skew_ms greatest ss)) f.0 requests) none f.3 in
                let after_it = moved config trace greatest sent l ss m requests h l ss f.0 (f.1, unseen) f.4 alike (kept_same requests l.kept) in
                subst (λ (a : Option Answer). Left (answered_trace client a trace) d.client (option_to_list d.sent)) (sym none) (
                  f.0,
                  requests,
                  says_more config trace greatest sent l ss f.0 requests after_it.0 k (option_to_list d.sent) (heard f.0 f.5),
                  one_on config trace trace greatest clients m f.0 requests requests index d.client (λ q not. after_it.1 q) (λ q not. refl) (λ q not. refl)
                      (λ _. record {
                        beside = f.5;
                        naming = λ e is. naming ∙ ap is_asked_names (sym (subst (λ (x : CurrentCall). x.stage ≡ AskedNames) (same_some (waiting.0).current e (sym (waiting.0).is_open ∙ is)) (waiting.0).stage_is));
                        settings = step.config ∙ own.settings;
                        now = now_early;
                      }) all,
                )

            over : IsOver s moment i d c → Left (answered_trace client d.answer trace) d.client (option_to_list d.sent)
            over o =
                let f = followed in
                let reply : Answer = o.reply in
                let seen : visible (f.1).0 ≡ Answered client reply ∷ [] = f.2 ∙ ap (λ (a : Option Answer). answer_shown client a) o.answer_is in
                let alike = subst (λ (a : Option Answer). AreAlike l (snapshots_left client a (lasting config.skew_ms greatest ss)) f.0 requests) o.answer_is f.3 in
                let why : WhyOver = why_over reply o.caused in
                let clock : (f.0).clock ≡ m.clock = clock_left config trace greatest sent l ss m requests h client f.0 f.1 (Answered client reply) seen refl in
                let settings : (f.0).config ≡ m.config = (clock_and_settings_are_seen m f.0 f.1).1 in
                let none : ((f.0).clients client).open_call ≡ None = subst (λ (x : Option CurrentCall). IsBesideCall f.0 requests client x) o.none_open (f.5).call in
                let ended = ends_call config trace greatest sent l ss m requests h client f.0 f.1 reply seen alike f.4 (none_of_own why ss facts.waits (h.alike).locks) naming (over_known why f.0 clock settings none) in
                subst (λ (a : Option Answer). Left (answered_trace client a trace) d.client (option_to_list d.sent)) (sym o.answer_is) (
                  f.0,
                  requests,
                  says_more config (trace ++ Answered client reply ∷ []) greatest sent l ss f.0 requests ended.0 k (option_to_list d.sent) (heard f.0 f.5),
                  one_on config trace (trace ++ Answered client reply ∷ []) greatest clients m f.0 requests requests index d.client ended.1 (λ q not. refl) (λ q not. answered_last (Some reply) q)
                      (λ _. record {
                        beside = f.5;
                        naming = λ e is. none_some e (sym o.none_open ∙ is);
                        settings = step.config ∙ own.settings;
                        now = now_early;
                      }) all,
                )
