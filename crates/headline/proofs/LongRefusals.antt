-- A client that takes a refusal for its length has a call whose range is too long at the machine.
use Rattle.std.proofs.Common.{◌≡◌, ℕ, zero, suc, ◌≤◌, Bool, true, false, true≢false, List, [], ◌∷◌, ◌++◌, length, Option, Some, refl, sym, ap, subst, ◌∙◌, inl, inr, arith}
use Rattle.std.specs.Prelude.{◌==◌, IsTrue}
use Rattle.std.proofs.lemmas.Bool.{and_parts}
use Rattle.gfs_types.specs.declared.config.Config.{Config}
use Rattle.gfs_types.specs.declared.ids.Handle.{Handle}
use Rattle.gfs_types.specs.declared.ids.Moment.{Moment}
use Rattle.gfs_types.specs.declared.ids.Node.TheVariants.{Master}
use Rattle.gfs_types.specs.declared.refusal.Refusal.{Refusal}
use Rattle.gfs_types.specs.declared.refusal.Refusal.TheVariants.{TooLong}
use Rattle.messages.specs.declared.event.Event.{Event}
use Rattle.messages.specs.declared.event.NodeInput.{NodeInput}
use Rattle.messages.specs.declared.event.NodeInput.TheVariants as input
use Rattle.messages.specs.declared.message.Body.{Body}
use Rattle.messages.specs.declared.message.Body.TheVariants as body
use Rattle.gfs_types.specs.declared.ids.Version.{Version}
use Rattle.messages.specs.declared.message.Message.{Message}
use Rattle.messages.specs.declared.message.Target.{Target}
use Rattle.relaxed_file.specs.Order.{CallId}
use Rattle.relaxed_file.specs.Machine.{Machine, Asked, Chunk, OpenCall, IsOpen, chunk_at, chunk_count, chunk_size}
use Rattle.relaxed_file.specs.Chunks.{tries_in, tries_below}
use Rattle.relaxed_file.specs.Answers.{is_too_long}
use Rattle.relaxed_file.specs.Run.{LeadsTo, IsRunTo}
use Rattle.relaxed_file.proofs.AskedFor.{open_is_made}
use Rattle.relaxed_file.proofs.Grows.{Grows, grows_to, known_when_reached}
use Rattle.client_state.specs.declared.call.CurrentCall.{CurrentCall}
use Rattle.client_state.specs.declared.call.Stage.{Stage}
use Rattle.client_state.specs.declared.call.Stage.TheVariants.{AskedWhere}
use Rattle.protocol.specs.Tables.{element_at}
use Rattle.protocol.specs.Sending.{data_id, the_client}
use Rattle.protocol.specs.Choice.{Choice}
use Rattle.protocol.specs.Client.{ClientState}
use Rattle.protocol.specs.Master.{PendingSnapshot}
use Rattle.protocol.specs.Observer.{order_of, observed_moment, calls_made}
use Rattle.protocol.specs.World.{WorldState, new_world, happens, after_events, IsReached, is_kept}
use Rattle.laws_base.proofs.Steps.{same_some}
use Rattle.laws_base.proofs.Entries.{same_number}
use Rattle.laws_base.specs.Attempts.{is_request}
use Rattle.laws_base.specs.FewAttempts.{EachOf, WasAsked}
use Rattle.laws_base.specs.FileCalls.{IsOfFile}
use Rattle.laws_base.proofs.Histories.{after_both}
use Rattle.laws_base.proofs.ReadAnswers.{one_request}
use Rattle.laws_base.proofs.RequestsOnce.{requests_are_numbered_once}
use Rattle.laws_base.specs.Entries.{IsAmong, IsPushed}
use Rattle.laws_base.proofs.AnsweredAttempts.{answers_known}
use Rattle.laws_base.proofs.UsedAnswers.{IsReading}
use Rattle.laws_machine.specs.ToldIndexes.{IsAskFor}
use Rattle.laws_machine.proofs.AskedIndexes.{asks_are_for_the_part_in_hand}
use Rattle.laws_machine.proofs.LaterCalls.{calls_passed}
use Rattle.laws_machine.proofs.OpenEntries.{entries_were_asked_for_in_their_call}
use Rattle.laws_machine.specs.ChunksAlike.{ChunkSides}
use Rattle.laws_machine.specs.FileClients.{IsFileCall, IsCallAlike, IsRefusedAt, IsSaid, IsSaidAt}
use Rattle.laws_machine.specs.FileClientsStay.{IsFirm, IsFirmInput}
use Rattle.laws_machine.specs.SentRequests.{IsAttemptOf, IsRequestOf, AreRequestsOfCalls, IsRefusedCall, IsTryAt, AreTriesNumbered}
use Rattle.laws_machine.specs.Tries.{AddsNumberedTries}
use Rattle.laws_machine.specs.WholeWorlds.{AreFileClients, IsBeside}
use Rattle.laws_machine.specs.WholeClients.{GivesClient}
use Rattle.laws_machine.proofs.CountedCalls.{calls_are_counted}
use Rattle.laws_machine.proofs.WholeClients.{came}
use Rattle.headline.proofs.LongCalls.{call_made, file_made}
use Rattle.headline.proofs.RefusalsStay.{asked_split, asks_no_primary}
use Rattle.headline.proofs.TriesStay.{tries_stay_numbered}
use Rattle.headline.proofs.ClientWords.{refusals_come_from}
use Rattle.headline.specs.LongRefusals.{RefusalsForLengthAreSo}
use Rattle.headline.proofs.RequestsStay.{sizes_kept}

no_tries : (chunks : ℕ → Chunk) (id : CallId) → ((index : ℕ) → tries_in id (chunks index) ≡ 0) → (count : ℕ) → tries_below chunks id count ≡ 0
no_tries chunks id none zero = refl
no_tries chunks id none (suc count) = let below = no_tries chunks id none count in let one = none count in omega (arith, below, one)

-- only a refusal for length isn't firm
loose_is : (b : Body) → (IsFirm b → ⊥) → (number : ℕ) × (b ≡ body.Refused number TooLong)
loose_is (body.Refused number refusal) loose = by_refusal refusal loose
  where
    by_refusal : (x : Refusal) → (IsFirm (body.Refused number x) → ⊥) → (n : ℕ) × (body.Refused number x ≡ body.Refused n TooLong)
    by_refusal TooLong not = (number, refl)
    by_refusal other not = absurd (not tt)
loose_is other loose = absurd (loose tt)

abbrev is_ask : Body → Bool
is_ask (body.Ask number file what deadline lost) = true
is_ask other = false

reads_under : (number : ℕ) (b : Body) → IsReading number b → (is_request number b ≡ true) × (is_ask b ≡ false)
reads_under number (body.Read n handle version offset count) same = (ap (λ (k : ℕ). k == number) same ∙ same_number number, refl)
reads_under number (body.Len n handle version) same = (ap (λ (k : ℕ). k == number) same ∙ same_number number, refl)
reads_under number other same = absurd same

-- no server refuses an ask, where requests are of calls
module _ (config : Config) (servers clients : ℕ) (w : WorldState) (r : IsReached config servers clients w) (m : Machine) (q : AreRequestsOfCalls config w m)
    (index : ℕ) (s : ClientState) (at : element_at w.clients index ≡ Some s) (x : CurrentCall) (current : s.current ≡ Some x) (number : ℕ) (staged : x.stage ≡ AskedWhere number)
    (place : ℕ) (y : Message) (there : element_at w.sent place ≡ Some y) (to : y.receiver ≡ the_client (suc index)) (is : y.body ≡ body.Refused number TooLong)
  where
    ask : IsAskFor w.sent (suc index) x number
    ask = asks_are_for_the_part_in_hand config servers clients w r index s at x number current staged

    -- another request of this number
    no_other : (z : Message) → IsAmong w.sent z → z.sender ≡ the_client (suc index) → is_request number z.body ≡ true → is_ask z.body ≡ false → ⊥
    no_other z sent own request not =
        true≢false (sym (ap is_ask ask.body_is) ∙ sym (ap (λ (u : Message). is_ask u.body)
        (one_request w.sent (suc index) number (requests_are_numbered_once config servers clients w r (suc index) number).0 z ask.ask sent own request ask.sent_is ask.sender_is (ap (λ (b : Body). is_request number b) ask.body_is ∙ same_number number)))
        ∙ not)

    no_mutate : (z : Message) → IsAmong w.sent z → z.sender ≡ the_client (suc index) → (handle : Handle) (version : Version) (aim : Target) (deadline : Moment) → z.body ≡ body.Mutate (data_id (suc index) number) handle version aim deadline → ⊥
    no_mutate z sent own handle version aim deadline says =
        no_other push.push push.sent_is push.sender_is (ap (λ (b : Body). is_request number b) push.body_is ∙ same_number number) (ap is_ask push.body_is)
      where
        a : IsAttemptOf (new_world config q.servers q.clients) q.steps m (suc index) (data_id (suc index) number) handle version aim
        a =
            subst (λ (b : Body). IsRequestOf (new_world config q.servers q.clients) q.steps m (suc index) b) says
            (q.each (suc index) sent.0 z (subst (λ (u : WorldState). element_at u.sent sent.0 ≡ Some z) (sym q.leads) sent.1) own)

        push : IsPushed w.sent (data_id (suc index) number) a.bytes
        push = subst (λ (u : WorldState). IsPushed u.sent (data_id (suc index) number) a.bytes) q.leads a.pushed

    pub from_master : y.sender ≡ Master
    from_master = elim (refusals_come_from config servers clients w r place y there number TooLong is) [
      | inl server ↦ absurd (elim (answers_known config servers clients w r place server.0 y there server.1 (data_id (suc index) number) (inr (TooLong, to, is, tt))) [
        | inl spent ↦ elim spent [
          | inl used_up ↦ no_mutate used_up.asks.asked used_up.asks.sent_is used_up.asks.sender_is used_up.handle used_up.version used_up.asks.aim used_up.asks.deadline used_up.asks.body_is
          | inr late ↦ no_mutate late.asked late.sent_is late.sender_is late.handle late.version late.aim late.deadline late.body_is
        ]
        | inr reads ↦ let under = reads_under number reads.asked.body reads.reads in no_other reads.asked reads.sent_is reads.sender_is under.0 under.1
      ])
      | inr master ↦ master
    ]

module _ (config : Config) (servers clients : ℕ) (w : WorldState) (r : IsReached config servers clients w) (kept : IsTrue (is_kept w)) (e : Event) (choice : Choice) (clocks : IsTrue (happens w e choice).world.observer.are_clocks_kept)
    (index moment : ℕ) (s : ClientState) (at : element_at w.clients index ≡ Some s) (up : IsTrue s.up) (ss : List PendingSnapshot) (k j : ChunkSides) (beside : IsBeside config w ss k) (leads : LeadsTo k.machine j.machine)
    (run : IsRunTo config (observed_moment w.config.skew_ms w.observer moment).trace j.machine) (files : AreFileClients w.clients j.machine) (adds : AddsNumberedTries w (happens w e choice).world k j.machine)
    (place : ℕ) (y : Message) (there : element_at w.sent place ≡ Some y) (to : y.receiver ≡ the_client (suc index)) (number : ℕ) (is : y.body ≡ body.Refused number TooLong)
    (x : CurrentCall) (current : s.current ≡ Some x) (staged : x.stage ≡ AskedWhere number) (o : OpenCall) (is_open : IsOpen j.machine (suc index) o)
  where
    abbrev then_ : WorldState
    then_ = (happens w e choice).world

    abbrev q : AreRequestsOfCalls config w k.machine
    q = beside.requests_are.0

    abbrev Start : WorldState
    Start = new_world config q.servers q.clients

    abbrev W : WorldState
    W = after_events (new_world config q.servers q.clients) q.steps

    abbrev made : ℕ
    made = calls_made W.observer.trace (suc index)

    client_there : element_at W.clients index ≡ Some s
    client_there = subst (λ (u : WorldState). element_at u.clients index ≡ Some s) (sym q.leads) at

    refused : IsRefusedCall Start q.steps k.machine index x
    refused =
        q.refused index number place s x y client_there up current staged (subst (λ (u : WorldState). element_at u.sent place ≡ Some y) (sym q.leads) there)
        (from_master config servers clients w r k.machine q index s at x current number staged place y there to is) to is

    beside_there : IsBeside config W ss k
    beside_there = subst (λ (u : WorldState). IsBeside config u ss k) (sym q.leads) beside

    -- the call at the machine

    opened : (p : OpenCall) × IsFileCall j.machine (suc index) x p
    opened = elim (subst (λ (p : Option CurrentCall). IsCallAlike j.machine (suc index) p) current (files index s at up).call) [
      | inl naming ↦ absurd (subst (λ (st : Stage). IsOfFile st) naming (subst (λ (st : Stage). IsOfFile st) (sym staged) tt))
      | inr here ↦ here
    ]

    f : IsFileCall j.machine (suc index) x o
    f = subst (λ (p : OpenCall). IsFileCall j.machine (suc index) x p) (same_some opened.0 o (sym opened.1.is_open ∙ is_open)) opened.1

    grows : Grows k.machine j.machine
    grows = grows_to k.machine j.machine leads (known_when_reached config k.machine (beside.run.0, beside.run.1, beside.run.3))

    number_is : o.number ≡ made
    number_is =
        (calls_are_counted config (observed_moment w.config.skew_ms w.observer moment).trace j.machine run (suc index)).1 o is_open ∙ calls_passed w.config.skew_ms w.observer moment (suc index)
        ∙ ap (λ (u : WorldState). calls_made u.observer.trace (suc index)) (sym q.leads)

    made_at : (j.machine.clients (suc index)).calls made ≡ Some o.asked
    made_at = ap (λ (n : ℕ). (j.machine.clients (suc index)).calls n) (sym number_is) ∙ open_is_made j.machine (suc index) o (known_when_reached config j.machine (run.0, run.1, run.3)) is_open

    long : is_too_long (chunk_size j.machine x.file.0) o.asked.chunks_before o.asked.call ≡ true
    long =
        let before = call_made config q.servers q.clients q.steps ss k beside_there index s client_there up x current number staged in
        let same = same_some _ o.asked (sym ((grows.clients (suc index)).calls made _ before) ∙ made_at) in
        subst (λ (z : ℕ). is_too_long z o.asked.chunks_before o.asked.call ≡ true)
        (sym (sizes_kept config k.machine j.machine (beside.run.0, beside.run.1, beside.run.3) leads x.file.0 (file_made config q.servers q.clients q.steps ss k beside_there index s client_there up x current number staged)))
        (subst (λ (a : Asked). is_too_long (chunk_size k.machine x.file.0) a.chunks_before a.call ≡ true) same (refused.long _ before))

    -- nothing of it is placed

    numbered : AreTriesNumbered then_ j.machine
    numbered = tries_stay_numbered config w e choice (and_parts _ _ kept).0 k beside.chunks q beside.requests_are.1 j.machine (inr adds)

    path : after_events Start (q.steps ++ (e, choice) ∷ []) ≡ then_
    path = after_both Start q.steps ((e, choice) ∷ []) ∙ ap (λ (u : WorldState). (happens u e choice).world) q.leads

    no_try : (at_index n : ℕ) → IsTryAt then_ (suc index) o.number at_index n → ⊥
    no_try at_index n t = elim (asked_split index Start q.steps (e, choice) made part t.placed.seq asked) [
      | inl before ↦ refused.none_asked part t.placed.seq before
      | inr now ↦ asks_no_primary config q.servers q.clients q.steps e choice index number s x client_there current staged made part t.placed.seq now
    ]
      where
        law : (of : Option ℕ) × WasAsked index Start (q.steps ++ (e, choice) ∷ []) t.placed.entry.call.number of t.placed.seq
        law =
            entries_were_asked_for_in_their_call config q.servers q.clients (q.steps ++ (e, choice) ∷ []) (subst (λ (u : WorldState). IsTrue u.observer.are_clocks_kept) (sym path) clocks) t.handle t.place t.placed
            (subst (λ (u : WorldState). element_at (order_of u.observer t.handle) t.place ≡ Some t.placed) (sym path) t.is) index (ap (λ (c : CallId). c.client) t.call_is)

        part : Option ℕ
        part = law.0

        asked : WasAsked index Start (q.steps ++ (e, choice) ∷ []) made law.0 t.placed.seq
        asked = subst (λ (c : ℕ). WasAsked index Start (q.steps ++ (e, choice) ∷ []) c law.0 t.placed.seq) (ap (λ (c : CallId). c.number) t.call_is ∙ number_is) law.1

    few : (at_index count : ℕ) (numbers : List ℕ) → EachOf (IsTryAt then_ (suc index) o.number at_index) numbers → count ≤ length numbers → count ≡ 0
    few at_index count [] each low = omega (arith, low)
    few at_index count (n ∷ numbers) each low = absurd (no_try at_index n each.0)

    none_placed : (file at_index : ℕ) → tries_in (record { client = suc index; number = o.number }) (chunk_at j.machine file at_index) ≡ 0
    none_placed file at_index = let t = numbered file at_index (suc index) o.number in few at_index (tries_in (record { client = suc index; number = o.number }) (chunk_at j.machine file at_index)) t.0 t.2 t.3

    pub long_there : IsRefusedAt j.machine (suc index) o x.live TooLong
    long_there = (
      (x.file.0, f.file_is, long, no_tries (j.machine.files x.file.0).chunks (record { client = suc index; number = o.number }) (none_placed x.file.0) (chunk_count j.machine x.file.0)),
      refused.none_live,
    )

pub refusals_for_length_are_so : RefusalsForLengthAreSo
refusals_for_length_are_so config servers clients w r kept e choice clocks index moment s i at up given loose ss k j beside leads chunks run files adds = by_input i refl given loose
  where
    by_body : (y : Message) → GivesClient w e index moment (input.Deliver y) → (IsFirm y.body → ⊥) → IsSaid j.machine (suc index) s (input.Deliver y)
    by_body y gives not x o current is_open =
        subst (λ (b : Body). IsSaidAt j.machine (suc index) s.id o x x.stage b) (sym body_is.1) (by_stage x.stage refl)
      where
        body_is : (number : ℕ) × (y.body ≡ body.Refused number TooLong)
        body_is = loose_is y.body not

        by_stage : (st : Stage) → x.stage ≡ st → IsSaidAt j.machine (suc index) s.id o x st (body.Refused body_is.0 TooLong)
        by_stage (AskedWhere asked) staged = λ same.
            let was = came w e index moment (input.Deliver y) gives y refl in
            long_there config servers clients w r kept e choice clocks index moment s at up ss k j beside leads run files adds was.0.0 y was.0.1 was.1 body_is.0 body_is.1 x current (staged ∙ ap (λ (n : ℕ). AskedWhere n) same) o is_open
        by_stage other staged = tt

    by_input : (h : NodeInput) → i ≡ h → GivesClient w e index moment h → (IsFirmInput h → ⊥) → IsSaid j.machine (suc index) s h
    by_input input.Tick same gives not = absurd (not tt)
    by_input (input.Deliver y) same gives not = by_body y gives not
