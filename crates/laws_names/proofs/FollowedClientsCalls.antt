-- A name call is made, and each step of its client while it is open.
use Rattle.std.proofs.Common.{◌≡◌, ⊎_elim, ℕ, suc, true, false, List, [], ◌∷◌, Option, Some, None, refl, sym, ap, subst, ◌∙◌}
use Rattle.std.specs.Prelude.{◌==◌, not, filter}
use Rattle.gfs_types.specs.declared.shape.Shape.{Shape}
use Rattle.gfs_types.specs.declared.ids.FileId.{FileId}
use Rattle.gfs_types.specs.declared.call.Call.{Call}
use Rattle.gfs_types.specs.declared.answer.Answer.{Answer}
use Rattle.gfs_types.specs.declared.answer.Answer.TheVariants as answer
use Rattle.gfs_types.specs.declared.refusal.Refusal.TheVariants.{Unknown}
use Rattle.messages.specs.declared.event.NodeInput.{NodeInput}
use Rattle.messages.specs.declared.event.NodeInput.TheVariants as input
use Rattle.messages.specs.declared.message.Body.TheVariants as body
use Rattle.messages.specs.declared.message.Message.{Message}
use Rattle.messages.specs.declared.message.NameReply.{NameReply}
use Rattle.messages.specs.declared.message.NameReply.TheVariants as named
use Rattle.relaxed_file.specs.Machine.{Machine, Client, OpenCall, put}
use Rattle.relaxed_file.specs.NameStep.{is_name_call}
use Rattle.relaxed_file.specs.Answers.{descriptors_after, returned}
use Rattle.relaxed_file.specs.Run.{Action, Answered, Invoke, Return, ReturnFd, Allows, after, asked_now, visible}
use Rattle.relaxed_file.proofs.Tables.{put_same, at_some}
use Rattle.machine_names.specs.NameRuns.{LeadsByNames}
use Rattle.client_state.specs.declared.call.CurrentCall.{CurrentCall}
use Rattle.client_state.specs.declared.call.Stage.{Stage}
use Rattle.client_state.specs.declared.call.Stage.TheVariants.{AskedNames}
use Rattle.protocol.specs.Logged.{Logged}
use Rattle.protocol.specs.Master.{PendingSnapshot}
use Rattle.protocol.specs.Client.{ClientState, ClientDoing}
use Rattle.protocol.specs.ClientStep.{client_goes, client_call_goes}
use Rattle.laws_names.specs.Alike.{Requests, AreAlike, IsWaiting}
use Rattle.laws_names.specs.NameClients.{with_request, StaysTold}
use Rattle.laws_names.proofs.Beginnings.{calls_begin}
use Rattle.laws_names.proofs.Ends.{answers_end_calls}
use Rattle.laws_names.proofs.Answers.{told_answers_are_allowed, name_calls_may_give_up}
use Rattle.laws_names.specs.NameAnswers as waits
use Rattle.laws_names.specs.NameAnswers.{Tells, IsOver}
use Rattle.laws_names.proofs.Steps.{name_calls_begin, name_calls_are_answered_as_told}
use Rattle.laws_names.specs.FollowedClients.{IsBesideAt, IsBesideCall, IsBesideClient, IsInputTold, answer_shown, snapshots_left, NameCallsAreBegun, NameCallsAreFollowed}

-- a call that waits for the master
pub beside_waiting : (m : Machine) (requests : Requests) (client number : ℕ) (asked : Call) (d : ClientDoing) (current : OpenCall)
    → waits.IsWaiting d number asked → IsWaiting m requests client number current → current.asked.call ≡ asked → is_name_call asked ≡ true → IsBesideCall m requests client d.client.current
beside_waiting m requests client number asked d current h w same name =
    let at : IsWaiting m requests client (h.current).number current = record { is_open = w.is_open; number_is = w.number_is ∙ ap Some (sym h.number_is) } in
    let open_at : IsBesideAt m requests client h.current AskedNames = (current, at, same ∙ sym h.asked_is, ap is_name_call h.asked_is ∙ name) in
    subst (λ (o : Option CurrentCall). IsBesideCall m requests client o) (sym h.is_open) (subst (λ (t : Stage). IsBesideAt m requests client h.current t) (sym h.stage_is) open_at)

-- a name call as it was made, under the next number
pub begun_beside : (m : Machine) (requests : Requests) (client : ℕ) (s : ClientState) (moment : ℕ) (c : Call) → IsBesideClient s m requests client → is_name_call c ≡ true
    → IsBesideClient (client_call_goes s moment c).client (after m (Invoke client c)) (with_request requests client (Some (suc s.call_count))) client
begun_beside m requests client s moment c beside name =
    let number : ℕ = suc s.call_count in
    let n : Machine = after m (Invoke client c) in
    let later : Requests = with_request requests client (Some number) in
    let current : OpenCall = record { number = suc (m.clients client).call_count; asked = asked_now m client c; has_begun = false; has_locks = false; outcomes = []; offers = []; pieces = []; lengths = [] } in
    let state : Client = record (m.clients client) { call_count = suc (m.clients client).call_count; calls = put (suc (m.clients client).call_count) (Some (asked_now m client c)) (m.clients client).calls; open_call = Some current } in
    let waiting : IsWaiting n later client number current = record { is_open = ap (λ (x : Client). x.open_call) (put_same client state m.clients); number_is = put_same client (Some number) requests } in
    let client_waits = name_calls_begin s moment c name in
    record {
      call = beside_waiting n later client number c (client_call_goes s moment c) current client_waits.0 waiting refl name;
      count = ap (λ (x : Client). x.fd_count) (put_same client state m.clients) ∙ beside.count ∙ sym client_waits.1;
    }

pub name_calls_are_begun : NameCallsAreBegun
name_calls_are_begun l snapshots m requests client s moment c h beside none name unkept =
    let idle : (m.clients client).open_call ≡ None = subst (λ (o : Option CurrentCall). IsBesideCall m requests client o) none beside.call in
    let begun = calls_begin l snapshots m requests client (Some (suc s.call_count)) c h idle unkept in
    (after m (Invoke client c), (Invoke client c ∷ [], (begun.0, tt), refl, refl), refl, begun.1, begun.2, begun_beside m requests client s moment c beside name)

module _ (l : Logged) (snapshots : List PendingSnapshot) (m : Machine) (requests : Requests) (client : ℕ) (s : ClientState) (h : AreAlike l snapshots m requests) where
  -- beside what a step of the client has come to
  abbrev Follows : ClientDoing → Type 0
  Follows d = (n : Machine) × (run : LeadsByNames m n) × (visible run.0 ≡ answer_shown client d.answer) × AreAlike l (snapshots_left client d.answer snapshots) n requests × ((x : Message) → StaysTold m requests n requests x)
      × IsBesideClient d.client n requests client

  stays_open : (d : ClientDoing) → d.answer ≡ None → IsBesideClient d.client m requests client → Follows d
  stays_open d none beside = (
    m,
    ([], tt, refl, refl),
    ap (λ (o : Option Answer). answer_shown client o) (sym none),
    subst (λ (o : Option Answer). AreAlike l (snapshots_left client o snapshots) m requests) (sym none) h,
    λ x told. told,
    beside,
  )

  -- by an answer of the machine
  ends_by : (d : ClientDoing) (reply : Answer) (action : Action) → d.answer ≡ Some reply → d.client.current ≡ None → (run : LeadsByNames m (after m action)) → visible run.0 ≡ Answered client reply ∷ []
      → AreAlike l (filter (λ t. not (t.client == client)) snapshots) (after m action) requests × ((x : Message) → StaysTold m requests (after m action) requests x)
      → ((after m action).clients client).open_call ≡ None → ((after m action).clients client).fd_count ≡ d.client.fd_count → Follows d
  ends_by d reply action is none run seen alike over count = (
    after m action,
    run,
    seen ∙ ap (λ (o : Option Answer). answer_shown client o) (sym is),
    subst (λ (o : Option Answer). AreAlike l (snapshots_left client o snapshots) (after m action) requests) (sym is) alike.0,
    alike.1,
    record { call = subst (λ (o : Option CurrentCall). IsBesideCall (after m action) requests client o) (sym none) over; count = count },
  )

  abbrev IsIdle : Machine → Type 0
  IsIdle n = ((n.clients client).open_call ≡ None) × ((n.clients client).fd_count ≡ (m.clients client).fd_count)

  idle_after : (reply : Answer) → Allows m (Return client reply) → IsIdle (after m (Return client reply))
  idle_after reply allowed =
      let current : OpenCall = allowed.0 in
      let state : Client = record (m.clients client) { open_call = None; descriptors = descriptors_after (m.clients client).descriptors current.asked.call reply } in
      at_some (λ (n : Machine). IsIdle n) (λ (x : OpenCall). returned m client x reply) m (m.clients client).open_call current allowed.1
      (ap (λ (x : Client). x.open_call) (put_same client state m.clients), ap (λ (x : Client). x.fd_count) (put_same client state m.clients))

  returns : (d : ClientDoing) (reply : Answer) → d.answer ≡ Some reply → d.client.current ≡ None → (m.clients client).fd_count ≡ d.client.fd_count → Allows m (Return client reply) → Follows d
  returns d reply is none count allowed =
      let idle = idle_after reply allowed in
      ends_by d reply (Return client reply) is none (Return client reply ∷ [], (allowed, tt), refl, refl) refl (answers_end_calls l snapshots m requests client (Return client reply) h refl allowed) idle.0 (idle.1 ∙ count)

  returns_fd : (d : ClientDoing) (fd file : ℕ) → d.answer ≡ Some (answer.Fd (record { 0 = fd })) → d.client.current ≡ None → fd ≡ d.client.fd_count → Allows m (ReturnFd client fd file) → Follows d
  returns_fd d fd file is none count allowed =
      let state : Client = record (m.clients client) { open_call = None; fd_count = fd; descriptors = put fd (Some file) (m.clients client).descriptors; notes = put file (λ index. None) (m.clients client).notes } in
      ends_by d (answer.Fd (record { 0 = fd })) (ReturnFd client fd file) is none (ReturnFd client fd file ∷ [], (allowed, tt), refl, refl) refl (answers_end_calls l snapshots m requests client (ReturnFd client fd file) h refl allowed)
      (ap (λ (x : Client). x.open_call) (put_same client state m.clients)) (ap (λ (x : Client). x.fd_count) (put_same client state m.clients) ∙ count)

  module _ (moment : ℕ) (c : CurrentCall) (current : OpenCall) (w : IsWaiting m requests client c.number current) (same : current.asked.call ≡ c.asked) (name : is_name_call c.asked ≡ true) (count : (m.clients client).fd_count ≡ s.fd_count) where
    called : is_name_call current.asked.call ≡ true
    called = ap is_name_call same ∙ name

    told_allows : (i : NodeInput) (r : NameReply) → IsInputTold m requests client i → Tells i c.number r
        → ((reply : Answer) → r ≡ named.Answered reply → Allows m (Return client reply)) × ((file : FileId) (shape : Shape) → r ≡ named.Opened file shape → Allows m (ReturnFd client (suc (m.clients client).fd_count) file.0))
    told_allows (input.Deliver x) r came told =
        let allowed = told_answers_are_allowed m requests x client c.number current came.1 came.0 w called in
        (λ reply is. allowed.0 reply (told ∙ ap (λ (y : NameReply). body.Named c.number y) is), λ file shape is. allowed.1 file shape (told ∙ ap (λ (y : NameReply). body.Named c.number y) is))
    told_allows input.Tick r came told = absurd told

    over_at : (i : NodeInput) (d : ClientDoing) → IsInputTold m requests client i → IsOver s moment i d c → Follows d
    over_at i d came over = ⊎_elim
        (λ told. returns d over.reply over.answer_is over.none_open (count ∙ sym told.1) ((told_allows i (named.Answered over.reply) came told.0).0 over.reply refl))
        (λ rest. ⊎_elim
        (λ opened.
        let fd : ℕ = suc (m.clients client).fd_count in
        let reply_is : over.reply ≡ answer.Fd (record { 0 = fd }) = opened.2 ∙ ap (λ (k : ℕ). answer.Fd (record { 0 = suc k })) (sym count) in
        returns_fd d fd (opened.0).0 (over.answer_is ∙ ap (λ (a : Answer). Some a) reply_is) over.none_open (ap suc count ∙ sym opened.3) ((told_allows i (named.Opened opened.0 (opened.1).0) came (opened.1).1).1 opened.0 (opened.1).0 refl))
        (λ late.
        let given : Allows m (Return client (answer.Refused Unknown)) = (name_calls_may_give_up m client current w.is_open called).0 in
        returns d (answer.Refused Unknown) (over.answer_is ∙ ap (λ (a : Answer). Some a) late.0) over.none_open (count ∙ sym late.2) given)
        rest)
        over.caused

pub name_calls_are_followed : NameCallsAreFollowed
name_calls_are_followed l snapshots m requests client s moment i c h beside is_open stage_is came =
    let at : IsBesideAt m requests client c AskedNames =
    subst (λ (t : Stage). IsBesideAt m requests client c t) stage_is (subst (λ (o : Option CurrentCall). IsBesideCall m requests client o) is_open beside.call) in
    ⊎_elim
    (λ waiting. stays_open l snapshots m requests client s h (client_goes s moment i) (waiting.0).unanswered
    (record { call = beside_waiting m requests client c.number c.asked (client_goes s moment i) at.0 waiting.0 at.1 at.2 at.3; count = beside.count ∙ sym waiting.1 }))
    (λ over. over_at l snapshots m requests client s h moment c at.0 at.1 at.2 at.3 beside.count i (client_goes s moment i) came over)
    (name_calls_are_answered_as_told s moment i c is_open stage_is)
