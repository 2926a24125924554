-- What was refused for its length stays so at each event, and requests stay of calls.
use Rattle.std.proofs.Common.{◌≡◌, ◌⊎◌, ℕ, suc, ◌≤◌, Bool, true, false, true≢false, List, [], ◌∷◌, ◌++◌, Option, Some, refl, sym, ap, subst, ◌∙◌, inl, inr, arith}
use Rattle.std.specs.Prelude.{IsTrue}
use Rattle.gfs_types.specs.declared.config.Config.{Config}
use Rattle.gfs_types.specs.declared.ids.Node.{Node}
use Rattle.gfs_types.specs.declared.ids.Node.TheVariants.{Master}
use Rattle.gfs_types.specs.declared.refusal.Refusal.TheVariants.{TooLong}
use Rattle.messages.specs.declared.event.Event.{Event}
use Rattle.messages.specs.declared.message.Body.{Body}
use Rattle.messages.specs.declared.message.Body.TheVariants as body
use Rattle.messages.specs.declared.message.Message.{Message}
use Rattle.relaxed_file.specs.Machine.{Machine, Asked, chunk_size}
use Rattle.relaxed_file.specs.Answers.{is_too_long}
use Rattle.relaxed_file.specs.Run.{LeadsTo, IsRunTo}
use Rattle.relaxed_file.proofs.Grows.{Grows, grows_to, known_when_reached}
use Rattle.client_state.specs.declared.call.CurrentCall.{CurrentCall}
use Rattle.client_state.specs.declared.call.Stage.{Stage}
use Rattle.client_state.specs.declared.call.Stage.TheVariants.{AskedWhere}
use Rattle.protocol.specs.Tables.{element_at}
use Rattle.protocol.specs.Sending.{the_client}
use Rattle.protocol.specs.Choice.{Choice}
use Rattle.protocol.specs.Client.{ClientState}
use Rattle.protocol.specs.Master.{PendingSnapshot}
use Rattle.protocol.specs.Observer.{calls_made}
use Rattle.protocol.specs.World.{WorldState, Happened, new_world, happens, after_events}
use Rattle.laws_base.proofs.Steps.{same_some}
use Rattle.laws_base.proofs.MessagesSent.{IsSent, IsSameMessage}
use Rattle.laws_base.specs.Attempts.{IsRequestOf}
use Rattle.laws_base.specs.FewAttempts.{IsAskedNow, WasAsked}
use Rattle.laws_base.proofs.Events.{holds_after}
use Rattle.laws_base.proofs.Histories.{after_both}
use Rattle.laws_base.proofs.RequestsOnce.{later_cases, requests_carry_used_numbers}
use Rattle.laws_base.specs.Entries.{IsAmong}
use Rattle.laws_machine.specs.RefusedAsks.{HasAsk}
use Rattle.laws_machine.proofs.Answerers.{refusals_of_the_master_answer_an_ask}
use Rattle.laws_machine.specs.ChunksAlike.{ChunkSides}
use Rattle.laws_machine.specs.SentRequests.{AreRequestsOf, IsRefusedCall, AreRefusalsFor, AreRequestsOfCalls}
use Rattle.laws_machine.specs.WholeWorlds.{AreFileClients, IsBeside}
use Rattle.headline.specs.NumberedCalls.{RequestsStayOfCalls}
use Rattle.headline.proofs.AskedOnce.{Sends, each_sends}
use Rattle.headline.proofs.LongCalls.{call_made, refused_now, file_made}
use Rattle.headline.proofs.RefusalEvents.{IsWaitingOn, IsAskingAnew, WaitOn, each_waits, IsShortFor, IsLongWord, RefusesLong, each_refuses}
use Rattle.headline.proofs.RequestsStay.{IsNew, AllNew, each_new, all_requests, sizes_kept}
use Rattle.headline.proofs.SentNow.{IsMutateNow, IsOwn, pushing_reached}

-- what was asked in some steps and one more was asked in that one or before
pub asked_split : (index : ℕ) (w : WorldState) (before : List (Event × Choice)) (step : Event × Choice) (made : ℕ) (part : Option ℕ) (n : ℕ) → WasAsked index w (before ++ step ∷ []) made part n
    → WasAsked index w before made part n ⊎ IsAskedNow index (after_events w before) (happens (after_events w before) step.0 step.1) made part n
asked_split index w [] step made part n (inl now) = inr now
asked_split index w [] step made part n (inr none) = absurd none
asked_split index w (first ∷ rest) step made part n (inl now) = inl (inl now)
asked_split index w (first ∷ rest) step made part n (inr later) = elim (asked_split index (happens w first.0 first.1).world rest step made part n later) [ inl before ↦ inl (inr before) | inr now ↦ inr now ]

abbrev is_asked_where : Stage → Bool
is_asked_where (AskedWhere number) = true
is_asked_where other = false

-- a client that waits for the answer to an ask asks no primary
module _ (config : Config) (servers clients : ℕ) (steps : List (Event × Choice)) (e : Event) (choice : Choice) (index number : ℕ) (s : ClientState) (x : CurrentCall)
    (at : element_at (after_events (new_world config servers clients) steps).clients index ≡ Some s) (current : s.current ≡ Some x) (staged : x.stage ≡ AskedWhere number) where
  abbrev V : WorldState
  V = after_events (new_world config servers clients) steps

  module _ (made : ℕ) (part : Option ℕ) (q : ℕ) (now : IsAskedNow index (after_events (new_world config servers clients) steps) (happens (after_events (new_world config servers clients) steps) e choice) made part q) where
    new : IsNew V (happens V e choice) (suc index) now.asked.body
    new = holds_after V (λ f y. AllNew V y) (each_new config V (pushing_reached config servers clients steps)) e choice (suc index) now.place now.asked now.sent_is now.sender_is

    own : IsMutateNow new.before new.after.current now.id now.handle now.version now.aim
    own = subst (λ (b : Body). IsOwn new.before new.after.current b) now.body_is new.own

    client : s ≡ new.before
    client = same_some s new.before (sym at ∙ ap (λ (i : ℕ). element_at V.clients i) (let same = new.client_is in omega (arith, same)) ∙ new.before_is)

    same : x ≡ own.before
    same = same_some x own.before (sym current ∙ ap (λ (c : ClientState). c.current) client ∙ own.before_is)

    pub asks_no_primary : ⊥
    asks_no_primary = true≢false (sym (ap is_asked_where staged) ∙ ap (λ (c : CurrentCall). is_asked_where c.stage) same ∙ ap is_asked_where own.stage_is)

module _ (config : Config) (servers clients : ℕ) (steps : List (Event × Choice)) (ss : List PendingSnapshot) (k : ChunkSides) (n : Machine) (e : Event) (choice : Choice)
    (beside : IsBeside config (after_events (new_world config servers clients) steps) ss k) (requests : AreRequestsOf (new_world config servers clients) steps k.machine)
    (refused : AreRefusalsFor (new_world config servers clients) steps k.machine) (leads : LeadsTo k.machine n) where
  abbrev Start : WorldState
  Start = new_world config servers clients

  abbrev W : WorldState
  W = after_events (new_world config servers clients) steps

  abbrev X : Happened
  X = happens (after_events (new_world config servers clients) steps) e choice

  abbrev Steps : List (Event × Choice)
  Steps = steps ++ (e, choice) ∷ []

  path : after_events Start Steps ≡ X.world
  path = after_both Start steps ((e, choice) ∷ [])

  grows : Grows k.machine n
  grows = grows_to k.machine n leads (known_when_reached config k.machine (beside.run.0, beside.run.1, beside.run.3))

  sends : Sends W X
  sends = holds_after W (λ f x. Sends W x) (each_sends W) e choice

  module _ (index number : ℕ) (x : CurrentCall) (staged : x.stage ≡ AskedWhere number) (v : IsWaitingOn (after_events (new_world config servers clients) steps) (happens (after_events (new_world config servers clients) steps) e choice) index x) where
    calls_are : calls_made (after_events Start Steps).observer.trace (suc index) ≡ calls_made W.observer.trace (suc index)
    calls_are = ap (λ (u : WorldState). calls_made u.observer.trace (suc index)) path ∙ v.calls

    carry : IsRefusedCall Start steps k.machine index x → IsRefusedCall Start Steps n index x
    carry h =
        record {
          long = λ asked is.
              let before = call_made config servers clients steps ss k beside index v.client v.is v.up x v.current_is number staged in
              let there = (grows.clients (suc index)).calls (calls_made W.observer.trace (suc index)) _ before in
              let same = same_some _ asked (sym there ∙ ap (λ (q : ℕ). (n.clients (suc index)).calls q) (sym calls_are) ∙ is) in
              subst (λ (z : ℕ). is_too_long z asked.chunks_before asked.call ≡ true)
              (sym (sizes_kept config k.machine n (beside.run.0, beside.run.1, beside.run.3) leads x.file.0 (file_made config servers clients steps ss k beside index v.client v.is v.up x v.current_is number staged)))
              (subst (λ (a : Asked). is_too_long (chunk_size k.machine x.file.0) a.chunks_before a.call ≡ true) same (h.long _ before));
          none_live = h.none_live;
          none_asked = λ part q was. elim (asked_split index Start steps (e, choice) (calls_made W.observer.trace (suc index)) part q (subst (λ (made : ℕ). WasAsked index Start Steps made part q) calls_are was)) [
            | inl before ↦ h.none_asked part q before
            | inr now ↦ asks_no_primary config servers clients steps e choice index number v.client x v.is v.current_is staged (calls_made W.observer.trace (suc index)) part q now
          ];
        }

  -- the number of a refusal was used by a client that is up
  used : (index number : ℕ) (s : ClientState) → element_at W.clients index ≡ Some s → IsTrue s.up → (ask : Message) → IsAmong W.sent ask → ask.sender ≡ the_client (suc index) → (b : Body) → ask.body ≡ b → IsRequestOf s b
  used index number s at up ask there from b is = subst (λ (y : Body). IsRequestOf s y) is (requests_carry_used_numbers config servers clients W (steps, refl) index s at up there.0 ask there.1 from)

  module _ (index number place : ℕ) (s : ClientState) (x : CurrentCall) (y : Message) (at : element_at (after_events (new_world config servers clients) (steps ++ (e, choice) ∷ [])).clients index ≡ Some s) (up : IsTrue s.up)
      (current : s.current ≡ Some x) (staged : x.stage ≡ AskedWhere number) (there : element_at (after_events (new_world config servers clients) (steps ++ (e, choice) ∷ [])).sent place ≡ Some y) (from : y.sender ≡ Master)
      (to : y.receiver ≡ the_client (suc index)) (is : y.body ≡ body.Refused number TooLong) where
    waits : IsWaitingOn W X index x ⊎ IsAskingAnew W index number
    waits = holds_after W (λ f z. WaitOn W z) (each_waits W) e choice index number s x (subst (λ (u : WorldState). element_at u.clients index ≡ Some s) path at) up current staged

    cases : (element_at W.sent place ≡ Some y) ⊎ ((z : Message) × IsSent X.out.sent z × IsSameMessage z y)
    cases = later_cases W.sent sends.0 X.out.sent place y (subst (λ (ms : List Message). element_at ms place ≡ Some y) (ap (λ (u : WorldState). u.sent) path ∙ sends.1) there)

    before_used : element_at W.sent place ≡ Some y → (q : ClientState) → element_at W.clients index ≡ Some q → IsTrue q.up → number ≤ q.number
    before_used here q q_at q_up =
        let h : HasAsk W.sent (the_client (suc index)) number = subst (λ (p : Node). HasAsk W.sent p number) to (refusals_of_the_master_answer_an_ask config servers clients W (steps, refl) place number y TooLong here from is) in
        used index number q q_at q_up h.ask h.sent_is h.sender_is _ h.body_is

    short : (z : Message) → IsSent X.out.sent z → IsSameMessage z y → IsTrue W.master.up × IsShortFor W (the_client (suc index)) number
    short z sent same =
        subst (λ (p : Node). IsLongWord W p (body.Refused number TooLong)) (same.1 ∙ to)
        (subst (λ (b : Body). IsLongWord W z.receiver b) (same.2 ∙ is) (holds_after W (λ f q. RefusesLong W q) (each_refuses W) e choice sent.0 z sent.1 (same.0 ∙ from)))

    refusal : IsRefusedCall Start Steps n index x
    refusal = elim (waits) [
      | inl v ↦ carry index number x staged v (elim (cases) [
        | inl before ↦ refused index number place v.client x y v.is v.up v.current_is staged before from to is
        | inr now ↦
            let word = short now.0 now.1 now.2 in
            refused_now config servers clients steps ss k beside index v.client v.is v.up x v.current_is number staged word.1 word.0 requests
      ])
      | inr anew ↦ absurd (elim (cases) [
        | inl before ↦ let few = before_used before anew.client anew.is anew.up in let more = anew.new in omega (arith, few, more)
        | inr now ↦
            let word = short now.0 now.1 now.2 in
            let few = used index number anew.client anew.is anew.up word.1.ask word.1.sent_is word.1.sender_is _ word.1.body_is in
            let more = anew.new in omega (arith, few, more)
      ])
    ]

  pub all_refusals : AreRefusalsFor Start Steps n
  all_refusals index number place s x y at up current staged there from to is = refusal index number place s x y at up current staged there from to is

pub requests_stay_of_calls : RequestsStayOfCalls
requests_stay_of_calls config w ss k n e choice beside =
    let requests : AreRequestsOfCalls config w k.machine = beside.requests_are.0 in
    subst (λ (u : WorldState). IsBeside config u ss k → LeadsTo k.machine n → IsRunTo config (happens u e choice).world.observer.trace n → AreFileClients (happens u e choice).world.clients n → AreRequestsOfCalls config (happens u e choice).world n) requests.leads
    (λ there leads later files. record {
      servers = requests.servers;
      clients = requests.clients;
      steps = requests.steps ++ (e, choice) ∷ [];
      leads = after_both (new_world config requests.servers requests.clients) requests.steps ((e, choice) ∷ []);
      each = all_requests config requests.servers requests.clients requests.steps k.machine n e choice requests.each there.run leads later files there.files;
      refused = all_refusals config requests.servers requests.clients requests.steps ss k n e choice there requests.each requests.refused leads;
    }) beside
