-- In each world that is reached, a Done comes from a server, and so does a refusal, or it refuses an Ask of its receiver under that number; and a location answers an Ask of its receiver.
use Rattle.std.proofs.Common.{◌≡◌, ◌⊎◌, ℕ, suc, ◌-◌, true, List, [], ◌∷◌, ◌++◌, length, Option, Some, None, refl, sym, ap, subst, ◌∙◌, inl, inr}
use Rattle.std.specs.Prelude.{◌&&◌}
use Rattle.std.specs.Option.{option_to_list}
use Rattle.std.proofs.lemmas.Bool.{and_from}
use Rattle.gfs_types.specs.declared.config.Config.{Config}
use Rattle.gfs_types.specs.declared.ids.Node.{Node}
use Rattle.gfs_types.specs.declared.ids.Node.TheVariants as node
use Rattle.gfs_types.specs.declared.ids.DataId.{DataId}
use Rattle.messages.specs.declared.event.Event.{Event}
use Rattle.messages.specs.declared.event.Event.TheVariants as event
use Rattle.messages.specs.declared.event.NodeInput.{NodeInput}
use Rattle.messages.specs.declared.event.NodeInput.TheVariants as input
use Rattle.messages.specs.declared.message.Body.{Body}
use Rattle.messages.specs.declared.message.Body.TheVariants as body
use Rattle.messages.specs.declared.message.Message.{Message}
use Rattle.protocol.specs.Tables.{element_at}
use Rattle.protocol.specs.Sending.{the_server, the_client}
use Rattle.protocol.specs.Choice.{Choice, Ending, Goes, Lost, Stops}
use Rattle.protocol.specs.Client.{ClientState, ClientDoing}
use Rattle.protocol.specs.ClientStep.{client_at, client_step, client_call}
use Rattle.protocol.specs.MasterStep.{master_step, master_restart}
use Rattle.protocol.specs.Server.{ServerState}
use Rattle.protocol.specs.ServerStep.{server_at, server_step, server_restarts, server_restart}
use Rattle.protocol.specs.World.{WorldState, new_world, stamped, IsReached}
use Rattle.laws_base.proofs.Steps.{none_some, same_some}
use Rattle.laws_base.proofs.Entries.{AllOf, same_number}
use Rattle.laws_base.proofs.MembersRecorded.{kept_place, all_at}
use Rattle.laws_base.proofs.RisingOrders.{element_numbered}
use Rattle.laws_base.specs.Attempts.{is_from_client, is_request}
use Rattle.laws_base.proofs.Events.{IsGiven, HoldsAfter, world_reached}
use Rattle.laws_base.proofs.ClientNumbers.{IsSaid, IsStepOf, of_step, of_call}
use Rattle.laws_base.proofs.RequestsOnce.{AreNumbered, from_itself, each_event, numbered_reached, later_cases, requests_are_numbered_once}
use Rattle.laws_versions.proofs.ServerCauses.{step_words}
use Rattle.laws_base.proofs.Deadlines.{same_counted}
use Rattle.laws_base.specs.Entries.{IsAmong, IsPushed}
use Rattle.laws_base.proofs.RisingRounds.{restart_silent}
use Rattle.laws_machine.specs.CallSteps.{IsAnswerUnder, AttemptsAreAnsweredByServers}
use Rattle.messages.specs.declared.message.Location.{Location}
use Rattle.laws_base.proofs.Locations.{locations_name_current_holders}
use Rattle.laws_machine.proofs.MasterRefusals.{is_no_answer, master_refuses_asks}
use Rattle.laws_machine.specs.ToldIndexes.{IsIndexOf, LocationsAnswerTheirAsk}
use Rattle.laws_machine.specs.RefusedAsks.{HasAsk, RefusalsOfTheMasterAnswerAnAsk}

-- and a location of this index answers it
pub record HasAskOf (sent : List Message) (asker : Node) (number index : ℕ) : Type 0 where
  pub asked : HasAsk sent asker number
  pub index_is : IsIndexOf asked.what index

abbrev IsServers : Node → Type 0
IsServers sender = (server : ℕ) × (sender ≡ the_server server)

-- what answers an attempt comes from a server, or is a refusal of an ask
abbrev IsAnswered : List Message → Node → Node → Body → Type 0
IsAnswered sent sender receiver (body.Done id place) = IsServers sender
IsAnswered sent sender receiver (body.Refused number refusal) = IsServers sender ⊎ HasAsk sent receiver number
IsAnswered sent sender receiver (body.Told number (Some l)) = IsServers sender ⊎ HasAskOf sent receiver number l.index
IsAnswered sent sender receiver other = Unit {0}

abbrev Answers : List Message → Message → Type 0
Answers sent m = IsAnswered sent m.sender m.receiver m.body

plain_answers : (sent : List Message) (sender receiver : Node) (b : Body) → is_no_answer b ≡ true → IsAnswered sent sender receiver b
plain_answers sent sender receiver (body.Done id place) is = absurd (cc)
plain_answers sent sender receiver (body.Refused number refusal) is = absurd (cc)
plain_answers sent sender receiver (body.Told number (Some l)) is = absurd (cc)
plain_answers sent sender receiver other is = tt

server_answers : (sent : List Message) (sender receiver : Node) (b : Body) → IsServers sender → IsAnswered sent sender receiver b
server_answers sent sender receiver (body.Done id place) from = from
server_answers sent sender receiver (body.Refused number refusal) from = inl from
server_answers sent sender receiver (body.Told number (Some l)) from = inl from
server_answers sent sender receiver other from = tt

client_answers : (sent : List Message) (sender receiver : Node) (s t : ClientState) (b : Body) → IsSaid s t b → IsAnswered sent sender receiver b
client_answers sent sender receiver s t (body.Done id place) said = absurd said
client_answers sent sender receiver s t (body.Refused number refusal) said = absurd said
client_answers sent sender receiver s t (body.Told number (Some l)) said = absurd said
client_answers sent sender receiver s t other said = tt

abbrev later_ask : (sent more : List Message) (asker : Node) (number : ℕ) → HasAsk sent asker number → HasAsk (sent ++ more) asker number
later_ask sent more asker number h =
    record { ask = h.ask; file = h.file; what = h.what; deadline = h.deadline; lost = h.lost; sent_is = ((h.sent_is).0, kept_place sent more (h.sent_is).0 h.ask (h.sent_is).1); sender_is = h.sender_is; body_is = h.body_is }

later_answers : (sent more : List Message) (sender receiver : Node) (b : Body) → IsAnswered sent sender receiver b → IsAnswered (sent ++ more) sender receiver b
later_answers sent more sender receiver (body.Done id place) h = h
later_answers sent more sender receiver (body.Refused number refusal) h = elim (h) [ inl from ↦ inl from | inr asked ↦ inr (later_ask sent more receiver number asked) ]
later_answers sent more sender receiver (body.Told number (Some l)) h = elim (h) [ inl from ↦ inl from | inr asked ↦ inr (record { asked = later_ask sent more receiver number asked.asked; index_is = asked.index_is }) ]
later_answers sent more sender receiver other h = tt

-- steps

all_servers : (sent : List Message) (server : ℕ) (ms : List Message) → AllOf (λ m. (m.sender ≡ the_server server) × Unit {0}) ms → AllOf (Answers sent) ms
all_servers sent server [] all = tt
all_servers sent server (m ∷ ms) all = (server_answers sent m.sender m.receiver m.body (server, all.0.0), all_servers sent server ms all.1)

served : (sent : List Message) (s : ServerState) (moment : ℕ) (i : NodeInput) (choice : Choice) → AllOf (Answers sent) (server_step s moment i choice).out.sent
served sent s moment i choice =
    all_servers sent s.id (server_step s moment i choice).out.sent
    (step_words s.id (server_at s moment).now (λ b. Unit {0}) (λ b is. tt) s moment i choice refl refl (λ _. tt) (λ m came order handle version of new. tt))

restarted : (sent : List Message) (s : ServerState) (moment : ℕ) (choice : Choice) (e : Ending) → AllOf (Answers sent) (server_restarts s moment choice e).out.sent
restarted sent s moment choice Goes = tt
restarted sent s moment choice Lost = tt
restarted sent s moment choice (Stops made) = tt

client_sends : (sent : List Message) (s : ClientState) (d : ClientDoing) (o : Option Message) → IsStepOf s d → d.sent ≡ o → AllOf (Answers sent) (option_to_list o)
client_sends sent s d None step is = tt
client_sends sent s d (Some m) step is = (client_answers sent m.sender m.receiver s d.client m.body (step.says m is).1, tt)

mastered : (w : WorldState) (moment : ℕ) (i : NodeInput) (choice : Choice) → ((m : Message) → i ≡ input.Deliver m → IsAmong w.sent m) → AllOf (Answers w.sent) (master_step w.master moment i choice).out.sent
mastered w moment i choice came =
    master_refuses_asks w.master moment i choice (Answers w.sent)
    (record {
      plain = λ receiver b is. plain_answers w.sent node.Master receiver b is;
      refuses = λ receiver number refusal taken why. inr (record { ask = taken.ask; file = taken.file; what = taken.what; deadline = taken.deadline; lost = taken.lost; sent_is = came taken.ask taken.came; sender_is = taken.sender_is; body_is = taken.body_is });
      none = λ receiver number taken. tt;
      tells = λ receiver number l taken known. inr (record { asked = record { ask = taken.taken.ask; file = taken.taken.file; what = taken.taken.what; deadline = taken.taken.deadline; lost = taken.taken.lost; sent_is = came taken.taken.ask taken.taken.came; sender_is = taken.taken.sender_is; body_is = taken.taken.body_is }; index_is = taken.index_is });
    })

-- what comes in was sent
pub came_to : (w : WorldState) (e : Event) (n : Node) (moment : ℕ) (i : NodeInput) → IsGiven w e n moment i → (m : Message) → i ≡ input.Deliver m → IsAmong w.sent m
came_to w (event.Deliver number now) n moment (input.Deliver x) is m same = subst (λ (y : Message). IsAmong w.sent y) (same_some x m (ap message_in same)) (number - 1, element_numbered w.sent number x is.0)
  where
    message_in : NodeInput → Option Message
    message_in (input.Deliver y) = Some y
    message_in input.Tick = None
came_to w (event.Call c asked now) n moment (input.Deliver x) is m same = absurd is
came_to w (event.Tick to now) n moment (input.Deliver x) is m same = absurd is
came_to w (event.Restart to now) n moment (input.Deliver x) is m same = absurd is
came_to w (event.Rot server handle place byte) n moment (input.Deliver x) is m same = absurd is
came_to w (event.Fuse to count torn) n moment (input.Deliver x) is m same = absurd is
came_to w e n moment input.Tick is m same = absurd (let both : input.Tick ≡ input.Deliver m = same in cc)

-- worlds

abbrev AreAnswered : List Message → Type 0
AreAnswered sent = (place : ℕ) (m : Message) → element_at sent place ≡ Some m → Answers sent m

more_answered : (sent : List Message) (k : ℕ) (ms : List Message) → AreAnswered sent → AllOf (Answers sent) ms → AreAnswered (sent ++ stamped k ms)
more_answered sent k ms h all place m at =
    elim (later_cases sent k ms place m at) [
      | inl before ↦ later_answers sent (stamped k ms) m.sender m.receiver m.body (h place m before)
      | inr new ↦ later_answers sent (stamped k ms) m.sender m.receiver m.body
          (subst (λ (n : Node). IsAnswered sent n m.receiver m.body) (new.2).0 (subst (λ (n : Node). IsAnswered sent (new.0).sender n m.body) (new.2).1
          (subst (λ (b : Body). IsAnswered sent (new.0).sender (new.0).receiver b) (new.2).2 (all_at (Answers sent) ms (new.1).0 new.0 all (new.1).1))))
    ]

record IsFine (w : WorldState) : Type 0 where
  numbered : AreNumbered w.sent w.clients
  answered : AreAnswered w.sent

each_fine : (w : WorldState) → IsFine w → HoldsAfter w (λ e x. IsFine x.world)
each_fine w h =
    let numbered = each_event w h.numbered in
    let k : ℕ = suc (length w.sent) in
    record {
      nothing = λ e. h;
      masters = λ e moment i choice is up.
          record { numbered = numbered.masters e moment i choice is up; answered = more_answered w.sent k (master_step w.master moment i choice).out.sent h.answered (mastered w moment i choice (came_to w e node.Master moment i is)) };
      opens = λ e moment choice. record { numbered = numbered.opens e moment choice; answered = more_answered w.sent k (master_restart w.master moment choice).out.sent h.answered (restart_silent (Answers w.sent) w.master moment choice) };
      serves = λ e index moment s i choice at is up.
          record { numbered = numbered.serves e index moment s i choice at is up; answered = more_answered w.sent k (server_step s moment i choice).out.sent h.answered (served w.sent s moment i choice) };
      restarts = λ e index moment s choice at.
          record { numbered = numbered.restarts e index moment s choice at; answered = more_answered w.sent k (server_restart s moment choice).out.sent h.answered (restarted w.sent s moment choice choice.ending) };
      steps = λ e index moment s i choice at is up.
          record {
            numbered = numbered.steps e index moment s i choice at is up;
            answered = more_answered w.sent k (client_step s moment i choice).out.sent h.answered
                (of_step (λ t ms. AllOf (Answers w.sent) ms) s moment i choice ((h.numbered).each index s at).named (λ d step. client_sends w.sent (client_at s moment) d d.sent step refl) tt tt);
          };
      calls = λ e index moment s c choice at may.
          record {
            numbered = numbered.calls e index moment s c choice at may;
            answered = more_answered w.sent k (client_call s moment c choice).out.sent h.answered
                (of_call (λ t ms. AllOf (Answers w.sent) ms) s moment c choice ((h.numbered).each index s at).named (λ d step. client_sends w.sent (client_at s moment) d d.sent step refl) tt);
          };
      rots = λ e index handle s r place byte ending is_kept at there up. record { numbered = h.numbered; answered = h.answered };
    }

new_fine : (config : Config) (servers clients : ℕ) → IsFine (new_world config servers clients)
new_fine config servers clients = record { numbered = numbered_reached config servers clients (new_world config servers clients) ([], refl); answered = λ place m none. none_some m none }

answered_reached : (config : Config) (servers clients : ℕ) (w : WorldState) → IsReached config servers clients w → AreAnswered w.sent
answered_reached config servers clients w r = (world_reached IsFine each_fine new_fine config servers clients w r).answered

-- a number under which data were pushed is no ask's
module _ (config : Config) (servers clients : ℕ) (w : WorldState) (r : IsReached config servers clients w) (id : DataId) (bytes : List ℕ) (pushed : IsPushed w.sent id bytes) where
  not_asked : HasAsk w.sent (the_client id.client.0) id.seq → ⊥
  not_asked h = let both : body.Ask id.seq h.file h.what h.deadline h.lost ≡ body.Push id bytes pushed.rest = sym h.body_is ∙ ap (λ (m : Message). m.body) one ∙ pushed.body_is in absurd (cc)
    where
      one : h.ask ≡ pushed.push
      one =
          same_counted (λ m. is_from_client id.client.0 m.sender && is_request id.seq m.body) w.sent (h.sent_is).0 (pushed.sent_is).0 h.ask pushed.push (requests_are_numbered_once config servers clients w r id.client.0 id.seq).0
          (h.sent_is).1 (pushed.sent_is).1
          (and_from (is_from_client id.client.0 (h.ask).sender) (is_request id.seq (h.ask).body) (from_itself id.client.0 (h.ask).sender h.sender_is) (ap (λ (b : Body). is_request id.seq b) h.body_is ∙ same_number id.seq))
          (and_from (is_from_client id.client.0 (pushed.push).sender) (is_request id.seq (pushed.push).body) (from_itself id.client.0 (pushed.push).sender pushed.sender_is) (ap (λ (b : Body). is_request id.seq b) pushed.body_is ∙ same_number id.seq))

  by_cases : (m : Message) → Answers w.sent m → IsAnswerUnder id m → (server : ℕ) × (m.sender ≡ the_server server)
  by_cases m said answer =
      elim (answer) [
        | inl done ↦ subst (λ (b : Body). IsAnswered w.sent m.sender m.receiver b) done.1 said
        | inr refused ↦ elim (subst (λ (n : Node). IsAnswered w.sent m.sender n (body.Refused id.seq refused.0)) refused.1 (subst (λ (b : Body). IsAnswered w.sent m.sender m.receiver b) refused.2 said)) [
          | inl from ↦ from
          | inr asked ↦ absurd (not_asked asked)
        ]
      ]

pub attempts_are_answered_by_servers : AttemptsAreAnsweredByServers
attempts_are_answered_by_servers config servers clients w r place m at id bytes pushed answer = by_cases config servers clients w r id bytes pushed m (answered_reached config servers clients w r place m at) answer

-- what is told for a read or a write is of the index that was asked for
pub told_as_asked : (config : Config) (servers clients : ℕ) (w : WorldState) → IsReached config servers clients w → (place number : ℕ) (m : Message) (l : Location) → element_at w.sent place ≡ Some m → m.body ≡ body.Told number (Some l)
    → HasAskOf w.sent m.receiver number l.index
told_as_asked config servers clients w r place number m l at is =
    elim (subst (λ (b : Body). IsAnswered w.sent m.sender m.receiver b) is (answered_reached config servers clients w r place m at)) [
      | inl from ↦ absurd (let both : node.Master ≡ the_server from.0 = sym (locations_name_current_holders config servers clients w r place number m l at is).0 ∙ from.1 in cc)
      | inr asked ↦ asked
    ]

pub locations_answer_their_ask : LocationsAnswerTheirAsk
locations_answer_their_ask config servers clients w r place number m l at is =
    let h = told_as_asked config servers clients w r place number m l at is in
    record { ask = h.asked.ask; file = h.asked.file; what = h.asked.what; deadline = h.asked.deadline; lost = h.asked.lost; sent_is = h.asked.sent_is; sender_is = h.asked.sender_is; body_is = h.asked.body_is; index_is = h.index_is }

pub refusals_of_the_master_answer_an_ask : RefusalsOfTheMasterAnswerAnAsk
refusals_of_the_master_answer_an_ask config servers clients w r place number m refusal at sender is =
    elim (subst (λ (b : Body). IsAnswered w.sent m.sender m.receiver b) is (answered_reached config servers clients w r place m at)) [
      | inl from ↦ absurd (let both : the_server from.0 ≡ node.Master = sym from.1 ∙ sender in cc)
      | inr asked ↦ asked
    ]
