-- In each reached world: who said each word of names.
use Rattle.std.proofs.Common.{◌≡◌, ⊎_elim, ℕ, suc, ◌-◌, true, List, [], ◌++◌, length, Option, Some, None, refl, sym, ap, subst, ◌∙◌}
use Rattle.std.specs.Prelude.{◌&&◌, IsTrue}
use Rattle.std.specs.Option.{option_to_list}
use Rattle.std.proofs.lemmas.Bool.{true≢false}
use Rattle.gfs_types.specs.declared.config.Config.{Config}
use Rattle.gfs_types.specs.declared.ids.Node.{Node}
use Rattle.gfs_types.specs.declared.ids.Node.TheVariants as node
use Rattle.messages.specs.declared.event.Event.{Event}
use Rattle.messages.specs.declared.event.Event.TheVariants as event
use Rattle.messages.specs.declared.event.NodeInput.{NodeInput}
use Rattle.messages.specs.declared.event.NodeInput.TheVariants as input
use Rattle.messages.specs.declared.message.Body.{Body}
use Rattle.messages.specs.declared.message.Body.TheVariants as body
use Rattle.messages.specs.declared.message.Message.{Message}
use Rattle.relaxed_file.proofs.Tables.{contained}
use Rattle.protocol.specs.Tables.{element_at}
use Rattle.protocol.specs.Choice.{Choice, Ending, Goes, Lost, Stops}
use Rattle.protocol.specs.Seen.{Taken}
use Rattle.protocol.specs.Sending.{the_client, client_number}
use Rattle.protocol.specs.Master.{MasterState, MasterDoing, PendingSnapshot}
use Rattle.protocol.specs.MasterStep.{master_step, master_restart, opening, has_opened, is_within_limits, opens_as, found_log, started_master}
use Rattle.protocol.specs.ServerStep.{server_step, server_restart}
use Rattle.protocol.specs.Client.{ClientState, ClientDoing}
use Rattle.protocol.specs.ClientStep.{client_at, client_step, client_call}
use Rattle.protocol.specs.World.{WorldState, IsReached, stamped}
use Rattle.laws_base.proofs.Steps.{on_cond, none_some}
use Rattle.laws_base.proofs.Entries.{AllOf}
use Rattle.laws_base.proofs.RisingOrders.{element_numbered}
use Rattle.laws_base.proofs.MembersRecorded.{kept_place, all_at}
use Rattle.laws_base.proofs.MessagesSent.{IsSent, IsSameMessage, none_sent, sent_last}
use Rattle.laws_base.proofs.Events.{IsGiven}
use Rattle.laws_base.proofs.ClientNumbers.{IsSaid, IsStepOf, of_step, of_call}
use Rattle.laws_base.proofs.RequestsOnce.{AreNumbered, later_cases, numbered_reached}
use Rattle.laws_base.proofs.MasterTalks.{is_masters, MasterTalks, master_said}
use Rattle.laws_names.specs.KeptAnswers as kept_answers
use Rattle.laws_names.proofs.KeptAnswersReached.{waiting_snapshots_were_asked_for}
use Rattle.laws_names.specs.NamedReplies.{IsRequestUnder, Asks, WasAsked}
use Rattle.laws_names.proofs.NamedRepliesReached.{named_replies_were_asked_for}
use Rattle.laws_names.specs.NameWords.{HasAsked, IsAnswerToAsked, IsOfClient, NameAnswersWereAskedFor, NameRequestsAreOfClients}
use Rattle.laws_names.proofs.Reaching.{reached_with}
use Rattle.laws_names.proofs.ServerSilence.{IsSilent, AreSilent, server_silent, server_restart_silent}

abbrev IsWord : List Message → Message → Type 0
IsWord sent x = IsAnswerToAsked sent (client_number x.receiver) x.body × IsOfClient x.sender x.body

abbrev AreWords : List Message → List Message → Type 0
AreWords sent ms = (place : ℕ) (x : Message) → element_at ms place ≡ Some x → IsWord sent x

more_asked : (sent ms : List Message) (client : ℕ) (b : Body) → IsAnswerToAsked sent client b → IsAnswerToAsked (sent ++ ms) client b
more_asked sent ms client (body.Named number reply) h = (h.0, h.1, kept_place sent ms h.0 h.1 h.2, h.3, h.4)
more_asked sent ms client other h = tt

same_word : (sent : List Message) (x y : Message) → IsSameMessage x y → IsWord sent x → IsWord sent y
same_word sent x y same h =
    subst (λ (b : Body). IsAnswerToAsked sent (client_number y.receiver) b × IsOfClient y.sender b) same.2
    (subst (λ (n : Node). IsAnswerToAsked sent (client_number n) x.body × IsOfClient y.sender x.body) same.1 (subst (λ (n : Node). IsAnswerToAsked sent (client_number x.receiver) x.body × IsOfClient n x.body) same.0 h))

more_words : (sent : List Message) (k : ℕ) (ms : List Message) → AreWords sent sent → AreWords sent ms → AreWords (sent ++ stamped k ms) (sent ++ stamped k ms)
more_words sent k ms h new place x at = ⊎_elim
    (λ before. let w = h place x before in (more_asked sent (stamped k ms) (client_number x.receiver) x.body w.0, w.1))
    (λ now.
    let w = same_word sent now.0 x now.2 (new (now.1).0 now.0 (now.1).1) in
    (more_asked sent (stamped k ms) (client_number x.receiver) x.body w.0, w.1))
    (later_cases sent k ms place x at)

-- what says nothing of names
silent_word : (sent : List Message) (client : ℕ) (sender : Node) (b : Body) → IsSilent b → IsAnswerToAsked sent client b × IsOfClient sender b
silent_word sent client sender (body.Name number deadline c) is = absurd is
silent_word sent client sender (body.Look number c) is = absurd is
silent_word sent client sender (body.Named number reply) is = absurd is
silent_word sent client sender other is = (tt, tt)

silent_words : (sent ms : List Message) → AreSilent ms → AreWords sent ms
silent_words sent ms all place x at = silent_word sent (client_number x.receiver) x.sender x.body (all_at (λ m. IsSilent m.body) ms place x all at)

no_words : (sent ms : List Message) → ms ≡ [] → AreWords sent ms
no_words sent ms none place x at = none_some x (ap (λ (xs : List Message). element_at xs place) (sym none) ∙ at)

-- the master

abbrev pub IsUnasked : Body → Type 0
IsUnasked (body.Name number deadline c) = ⊥
IsUnasked (body.Look number c) = ⊥
IsUnasked other = Unit {0}

masters_unasked : (b : Body) → is_masters b ≡ true → IsUnasked b
masters_unasked (body.Name number deadline c) is = absurd (true≢false (sym is))
masters_unasked (body.Look number c) is = absurd (true≢false (sym is))
masters_unasked other is = tt

talks : MasterTalks (λ x. IsUnasked x.body)
talks = record { plain = λ receiver b is. masters_unasked b is; locates = λ receiver number l current. tt }

pub master_asks_nothing : (m : MasterState) (moment : ℕ) (i : NodeInput) (choice : Choice) → AllOf (λ x. IsUnasked x.body) (master_step m moment i choice).out.sent
master_asks_nothing m moment i choice = master_said (λ x. IsUnasked x.body) talks m moment i choice

unasked_of : (sender : Node) (b : Body) → IsUnasked b → IsOfClient sender b
unasked_of sender (body.Name number deadline c) is = absurd is
unasked_of sender (body.Look number c) is = absurd is
unasked_of sender other is = tt

pub given_sent : (w : WorldState) (e : Event) (n : Node) (moment : ℕ) (m : Message) → IsGiven w e n moment (input.Deliver m) → (place : ℕ) × (element_at w.sent place ≡ Some m) × (m.receiver ≡ n)
given_sent w (event.Deliver number now) n moment m is = (number - 1, element_numbered w.sent number m is.0, is.1)
given_sent w (event.Call client c now) n moment m is = absurd is
given_sent w (event.Tick to now) n moment m is = absurd is
given_sent w (event.Restart to now) n moment m is = absurd is
given_sent w (event.Rot server handle place byte) n moment m is = absurd is
given_sent w (event.Fuse to count torn) n moment m is = absurd is

name_request : (number : ℕ) (b : Body) → kept_answers.IsNameOf number b → IsRequestUnder number b
name_request number (body.Name n deadline c) is = is
name_request number other is = absurd is

asked_now : (w : WorldState) (e : Event) (moment : ℕ) (i : NodeInput) → IsGiven w e node.Master moment i → (client number : ℕ) → Asks i client number → HasAsked w.sent client number
asked_now w e moment (input.Deliver x) given client number asks = let there = given_sent w e node.Master moment x given in (there.0, x, there.1, asks.0, asks.1)
asked_now w e moment input.Tick given client number asks = absurd asks

module _ (config : Config) (servers clients : ℕ) (w : WorldState) (r : IsReached config servers clients w) where
  waited_for : IsTrue w.master.up → (s : PendingSnapshot) → kept_answers.WasAskedFor w.sent s.client s.number → HasAsked w.sent s.client s.number
  waited_for up s h = (h.0, h.1, h.2, h.3, name_request s.number (h.1).body h.4)

  answers_asked : (e : Event) (moment : ℕ) (i : NodeInput) → IsGiven w e node.Master moment i → IsTrue w.master.up → (client : ℕ) (b : Body) → WasAsked i w.master.snapshots client b → IsAnswerToAsked w.sent client b
  answers_asked e moment i given up client (body.Named number reply) was = ⊎_elim
      (λ asks. asked_now w e moment i given client number asks)
      (λ waits.
      let s : PendingSnapshot = waits.0 in
      let known = contained (λ (t : PendingSnapshot). kept_answers.WasAskedFor w.sent t.client t.number) w.master.snapshots s (waiting_snapshots_were_asked_for config servers clients w r up) waits.1 in
      subst (λ (n : ℕ). HasAsked w.sent client n) waits.3 (subst (λ (c : ℕ). HasAsked w.sent c s.number) waits.2 (waited_for up s known)))
      was
  answers_asked e moment i given up client other was = tt

  master_words : (e : Event) (moment : ℕ) (i : NodeInput) (choice : Choice) → IsGiven w e node.Master moment i → IsTrue w.master.up → AreWords w.sent (master_step w.master moment i choice).out.sent
  master_words e moment i choice given up place x at = (
    answers_asked e moment i given up (client_number x.receiver) x.body (named_replies_were_asked_for config servers clients w r up moment i choice place x at),
    unasked_of x.sender x.body (all_at (λ m. IsUnasked m.body) (master_step w.master moment i choice).out.sent place x (master_asks_nothing w.master moment i choice) at),
  )

  -- clients

  said_word : (s t : ClientState) (client : ℕ) (sender : Node) (b : Body) → sender ≡ the_client s.id → IsSaid s t b → IsAnswerToAsked w.sent client b × IsOfClient sender b
  said_word s t client sender (body.Name number deadline c) from said = (tt, (s.id, from))
  said_word s t client sender (body.Look number c) from said = (tt, (s.id, from))
  said_word s t client sender (body.Named number reply) from said = absurd said
  said_word s t client sender other from said = (tt, tt)

  abbrev Says : ClientState → List Message → Type 0
  Says t ms = AreWords w.sent ms

  sent_one : (o : Option Message) (m : Message) → IsSent (option_to_list o) m → o ≡ Some m
  sent_one None m h = none_sent m h
  sent_one (Some x) m h = ⊎_elim (λ none. none_sent m none) (λ same. ap (λ (y : Message). Some y) same) (sent_last [] x m h)

  client_words : (s : ClientState) (d : ClientDoing) → IsStepOf s d → Says d.client (option_to_list d.sent)
  client_words s d step place x at =
      let said = step.says x (sent_one d.sent x (place, at)) in
      said_word s d.client (client_number x.receiver) x.sender x.body said.0 said.1

opens_none : (m started : MasterState) (d : MasterDoing) (choice : Choice) (e : Ending) → (opens_as m started d choice e).out.sent ≡ []
opens_none m started d choice Goes = on_cond (λ (t : Taken MasterState). t.out.sent ≡ []) (has_opened started d && is_within_limits d.master) _ _ (λ _. refl) (λ _. refl)
opens_none m started d choice Lost = refl
opens_none m started d choice (Stops made) = refl

pub restart_none : (m : MasterState) (moment : ℕ) (choice : Choice) → (master_restart m moment choice).out.sent ≡ []
restart_none m moment choice =
    let started : MasterState = started_master m.config m.server_count (found_log m choice) moment in
    opens_none m started (opening started) choice choice.ending

words_reached : (config : Config) (servers clients : ℕ) (w : WorldState) → IsReached config servers clients w → AreWords w.sent w.sent
words_reached config servers clients =
    reached_with config servers clients (λ w. AreWords w.sent w.sent)
    (λ w r h.
    let k : ℕ = suc (length w.sent) in
    let numbered : AreNumbered w.sent w.clients = numbered_reached config servers clients w r in
    record {
      nothing = λ e. h;
      masters = λ e moment i choice is up. more_words w.sent k (master_step w.master moment i choice).out.sent h (master_words config servers clients w r e moment i choice is up);
      opens = λ e moment choice. more_words w.sent k (master_restart w.master moment choice).out.sent h (no_words w.sent (master_restart w.master moment choice).out.sent (restart_none w.master moment choice));
      serves = λ e index moment s i choice at is up. more_words w.sent k (server_step s moment i choice).out.sent h (silent_words w.sent (server_step s moment i choice).out.sent (server_silent s moment i choice));
      restarts = λ e index moment s choice at. more_words w.sent k (server_restart s moment choice).out.sent h (silent_words w.sent (server_restart s moment choice).out.sent (server_restart_silent s moment choice));
      steps = λ e index moment s i choice at is up.
          more_words w.sent k (client_step s moment i choice).out.sent h
          (of_step (Says config servers clients w r) s moment i choice (numbered.each index s at).named (λ d step. client_words config servers clients w r (client_at s moment) d step)
          (λ place x none. none_some x none) (λ place x none. none_some x none));
      calls = λ e index moment s c choice at may.
          more_words w.sent k (client_call s moment c choice).out.sent h
          (of_call (Says config servers clients w r) s moment c choice (numbered.each index s at).named (λ d step. client_words config servers clients w r (client_at s moment) d step) (λ place x none. none_some x none));
      rots = λ e index handle s r place byte ending is_kept at there up. h;
    })
    (λ place x none. none_some x none)

pub name_answers_were_asked_for : NameAnswersWereAskedFor
name_answers_were_asked_for config servers clients w r place x at = (words_reached config servers clients w r place x at).0

pub name_requests_are_of_clients : NameRequestsAreOfClients
name_requests_are_of_clients config servers clients w r place x at = (words_reached config servers clients w r place x at).1
