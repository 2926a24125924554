-- A client tells nothing that was asked of others; and in each world that is reached, what it is answered was asked under a number that it used.
use Rattle.std.proofs.Common.{◌≡◌, ◌⊎◌, ℕ, suc, ◌≤◌, true, true≢false, List, [], ◌∷◌, ◌++◌, length, Option, Some, None, refl, sym, subst, ◌∙◌, inl, inr}
use Rattle.std.specs.Prelude.{IsTrue}
use Rattle.std.specs.Option.{option_to_list}
use Rattle.gfs_types.specs.declared.config.Config.{Config}
use Rattle.gfs_types.specs.declared.ids.Node.{Node}
use Rattle.gfs_types.specs.declared.ids.Node.TheVariants as node
use Rattle.gfs_types.specs.declared.ids.DataId.{DataId}
use Rattle.gfs_types.specs.declared.call.Call.{Call}
use Rattle.gfs_types.specs.declared.refusal.Refusal.{Refusal}
use Rattle.gfs_types.specs.declared.refusal.Refusal.TheVariants.{NoLease}
use Rattle.messages.specs.declared.event.NodeInput.{NodeInput}
use Rattle.messages.specs.declared.event.NodeInput.TheVariants as input
use Rattle.messages.specs.declared.message.Body.{Body}
use Rattle.messages.specs.declared.message.Body.TheVariants as body
use Rattle.messages.specs.declared.message.Message.{Message}
use Rattle.client_state.specs.declared.call.CurrentCall.{CurrentCall}
use Rattle.protocol.specs.Tables.{element_at}
use Rattle.protocol.specs.Sending.{data_id, the_server, the_client}
use Rattle.protocol.specs.Choice.{Choice, Ending, Goes, Lost, Stops}
use Rattle.protocol.specs.Client.{ClientState, ClientDoing}
use Rattle.protocol.specs.ClientStep.{client_at, client_step, client_call}
use Rattle.protocol.specs.MasterStep.{master_step, master_restart}
use Rattle.protocol.specs.Server.{ServerState}
use Rattle.protocol.specs.ServerStep.{server_at, server_step, server_restarts, server_restart}
use Rattle.protocol.specs.World.{WorldState, new_world, stamped, IsReached}
use Rattle.laws_base.proofs.Steps.{none_some}
use Rattle.laws_base.proofs.Entries.{AllOf}
use Rattle.laws_base.proofs.MembersRecorded.{kept_place, all_at}
use Rattle.laws_base.specs.Attempts.{IsRequestOf}
use Rattle.laws_base.proofs.Events.{HoldsAfter, world_reached}
use Rattle.laws_base.proofs.ClientNumbers.{IsSaid, IsStepOf, of_step, of_call}
use Rattle.laws_base.proofs.RequestsOnce.{AreNumbered, each_event, numbered_reached, later_cases, requests_carry_used_numbers}
use Rattle.laws_base.proofs.ServerTalks.{is_quiet, Talks, step_said}
use Rattle.laws_versions.proofs.ServerCauses.{step_words}
use Rattle.laws_base.specs.Entries.{IsAmong}
use Rattle.laws_base.specs.AnsweredAttempts.{IsFinal}
use Rattle.laws_base.proofs.RisingRounds.{restart_silent}
use Rattle.laws_base.proofs.UsedAnswers.{IsReading}
use Rattle.laws_base.proofs.AnsweredAttempts.{IsSpentUp, answers_known}
use Rattle.laws_machine.specs.RefusedAsks.{HasAsk}
use Rattle.laws_machine.proofs.Answerers.{came_to}
use Rattle.headline.specs.ClientWords.{IsNoTelling, ClientsTellNothing, IsOfUsed, AnswersCarryUsedNumbers}
use Rattle.laws_machine.proofs.MasterRefusals.{is_no_answer, master_refuses_asks}

-- what clients say

said_asks : (s t : ClientState) (b : Body) → IsSaid s t b → IsNoTelling b
said_asks s t (body.Told number location) said = absurd said
said_asks s t (body.Refused number refusal) said = absurd said
said_asks s t (body.Done id place) said = absurd said
said_asks s t (body.Bytes number bytes) said = absurd said
said_asks s t (body.LenIs number count) said = absurd said
said_asks s t other said = tt

sends_asks : (s : ClientState) (d : ClientDoing) (o : Option Message) → IsStepOf s d → d.sent ≡ o → AllOf (λ m. IsNoTelling m.body) (option_to_list o)
sends_asks s d None step is = tt
sends_asks s d (Some m) step is = (said_asks s d.client m.body (step.says m is).1, tt)

pub step_asks : (s : ClientState) → ((c : CurrentCall) → s.current ≡ Some c → c.number ≤ s.call_count) → (moment : ℕ) (i : NodeInput) (choice : Choice) → AllOf (λ m. IsNoTelling m.body) (client_step s moment i choice).out.sent
step_asks s named moment i choice = of_step (λ t ms. AllOf (λ m. IsNoTelling m.body) ms) s moment i choice named (λ d step. sends_asks (client_at s moment) d d.sent step refl) tt tt

pub call_asks : (s : ClientState) → ((c : CurrentCall) → s.current ≡ Some c → c.number ≤ s.call_count) → (moment : ℕ) (c : Call) (choice : Choice) → AllOf (λ m. IsNoTelling m.body) (client_call s moment c choice).out.sent
call_asks s named moment c choice = of_call (λ t ms. AllOf (λ m. IsNoTelling m.body) ms) s moment c choice named (λ d step. sends_asks (client_at s moment) d d.sent step refl) tt

pub clients_tell_nothing : ClientsTellNothing
clients_tell_nothing s named moment choice place m = (
  λ i at. all_at (λ x. IsNoTelling x.body) (client_step s moment i choice).out.sent place m (step_asks s named moment i choice) at,
  λ c at. all_at (λ x. IsNoTelling x.body) (client_call s moment c choice).out.sent place m (call_asks s named moment c choice) at,
)

-- what is answered was asked

-- this node asked to read, or for a length, under this number
record HasRead (sent : List Message) (asker : Node) (number : ℕ) : Type 0 where
  asked : Message
  sent_is : IsAmong sent asked
  sender_is : asked.sender ≡ asker
  reads : IsReading number asked.body

abbrev IsServers : Node → Type 0
IsServers sender = (server : ℕ) × (sender ≡ the_server server)

abbrev IsAnswered : List Message → Node → Node → Body → Type 0
IsAnswered sent sender receiver (body.Told number l) = HasAsk sent receiver number
IsAnswered sent sender receiver (body.Refused number refusal) = IsServers sender ⊎ ((sender ≡ node.Master) × HasAsk sent receiver number)
IsAnswered sent sender receiver (body.Bytes number bytes) = HasRead sent receiver number
IsAnswered sent sender receiver (body.LenIs number count) = HasRead sent receiver number
IsAnswered sent sender receiver other = Unit {0}

abbrev Answers : List Message → Message → Type 0
Answers sent m = IsAnswered sent m.sender m.receiver m.body

telling_none : (sent : List Message) (sender receiver : Node) (b : Body) → IsNoTelling b → IsAnswered sent sender receiver b
telling_none sent sender receiver (body.Told number l) none = absurd none
telling_none sent sender receiver (body.Refused number refusal) none = absurd none
telling_none sent sender receiver (body.Bytes number bytes) none = absurd none
telling_none sent sender receiver (body.LenIs number count) none = absurd none
telling_none sent sender receiver other none = tt

all_telling_none : (sent : List Message) (ms : List Message) → AllOf (λ m. IsNoTelling m.body) ms → AllOf (Answers sent) ms
all_telling_none sent [] all = tt
all_telling_none sent (m ∷ ms) all = (telling_none sent m.sender m.receiver m.body all.0, all_telling_none sent ms all.1)

later_ask : (sent more : List Message) (asker : Node) (number : ℕ) → HasAsk sent asker number → HasAsk (sent ++ more) asker number
later_ask sent more asker number h =
    record { ask = h.ask; file = h.file; what = h.what; deadline = h.deadline; lost = h.lost; sent_is = ((h.sent_is).0, kept_place sent more (h.sent_is).0 h.ask (h.sent_is).1); sender_is = h.sender_is; body_is = h.body_is }

later_read : (sent more : List Message) (asker : Node) (number : ℕ) → HasRead sent asker number → HasRead (sent ++ more) asker number
later_read sent more asker number h = record { asked = h.asked; sent_is = ((h.sent_is).0, kept_place sent more (h.sent_is).0 h.asked (h.sent_is).1); sender_is = h.sender_is; reads = h.reads }

later_answers : (sent more : List Message) (sender receiver : Node) (b : Body) → IsAnswered sent sender receiver b → IsAnswered (sent ++ more) sender receiver b
later_answers sent more sender receiver (body.Told number l) h = later_ask sent more receiver number h
later_answers sent more sender receiver (body.Refused number refusal) h = elim (h) [ inl from ↦ inl from | inr asked ↦ inr (asked.0, later_ask sent more receiver number asked.1) ]
later_answers sent more sender receiver (body.Bytes number bytes) h = later_read sent more receiver number h
later_answers sent more sender receiver (body.LenIs number count) h = later_read sent more receiver number h
later_answers sent more sender receiver other h = tt

-- a server's step

abbrev IsHeard : List Message → Node → Body → Type 0
IsHeard sent receiver (body.Told number l) = ⊥
IsHeard sent receiver (body.Bytes number bytes) = HasRead sent receiver number
IsHeard sent receiver (body.LenIs number count) = HasRead sent receiver number
IsHeard sent receiver other = Unit {0}

quiet_heard : (sent : List Message) (receiver : Node) (b : Body) → is_quiet b ≡ true → IsHeard sent receiver b
quiet_heard sent receiver (body.Told number l) is = absurd (true≢false (sym is))
quiet_heard sent receiver (body.Bytes number bytes) is = absurd (true≢false (sym is))
quiet_heard sent receiver (body.LenIs number count) is = absurd (true≢false (sym is))
quiet_heard sent receiver other is = tt

server_answers : (sent : List Message) (sender receiver : Node) (b : Body) → IsServers sender → IsHeard sent receiver b → IsAnswered sent sender receiver b
server_answers sent sender receiver (body.Told number l) from heard = absurd heard
server_answers sent sender receiver (body.Refused number refusal) from heard = inl from
server_answers sent sender receiver (body.Bytes number bytes) from heard = heard
server_answers sent sender receiver (body.LenIs number count) from heard = heard
server_answers sent sender receiver other from heard = tt

all_servers : (sent : List Message) (server : ℕ) (ms : List Message) → AllOf (λ m. (m.sender ≡ the_server server) × Unit {0}) ms → AllOf (λ m. IsHeard sent m.receiver m.body) ms → AllOf (Answers sent) ms
all_servers sent server [] all heard = tt
all_servers sent server (m ∷ ms) all heard = (server_answers sent m.sender m.receiver m.body (server, all.0.0) heard.0, all_servers sent server ms all.1 heard.1)

all_kept : (es : List (DataId × List ℕ)) → AllOf (λ x. Unit {0}) es
all_kept [] = tt
all_kept (x ∷ es) = (tt, all_kept es)

talks : (sent : List Message) (s : ServerState) (i : NodeInput) → ((m : Message) → i ≡ input.Deliver m → IsAmong sent m) → Talks s i (IsHeard sent) (λ v. Unit {0}) (λ x. Unit {0})
talks sent s i came =
    record {
      quiet = quiet_heard sent;
      reads = λ m number handle version offset count r bytes is asked row same there.
          record { asked = m; sent_is = came m is; sender_is = refl; reads = subst (λ (b : Body). IsReading number b) (sym asked) refl };
      lengths = λ m number handle version r is asked row same. record { asked = m; sent_is = came m is; sender_is = refl; reads = subst (λ (b : Body). IsReading number b) (sym asked) refl };
      pushes = λ m id bytes rest is asked. (tt, λ receiver hops. tt);
      settled = λ handle version serial. tt;
      numbers = λ m id handle version t deadline p bytes placed is asked primary new there fit. tt;
    }

served : (sent : List Message) (s : ServerState) (moment : ℕ) (i : NodeInput) (choice : Choice) → ((m : Message) → i ≡ input.Deliver m → IsAmong sent m) → AllOf (Answers sent) (server_step s moment i choice).out.sent
served sent s moment i choice came =
    all_servers sent s.id (server_step s moment i choice).out.sent
    (step_words s.id (server_at s moment).now (λ b. Unit {0}) (λ b is. tt) s moment i choice refl refl (λ _. tt) (λ m came order handle version of new. tt))
    (step_said (IsHeard sent) (λ v. Unit {0}) (λ x. Unit {0}) s moment i choice (talks sent (server_at s moment) i came) (all_kept s.pushed.entries)).0

restarted : (sent : List Message) (s : ServerState) (moment : ℕ) (choice : Choice) (e : Ending) → AllOf (Answers sent) (server_restarts s moment choice e).out.sent
restarted sent s moment choice Goes = tt
restarted sent s moment choice Lost = tt
restarted sent s moment choice (Stops made) = tt

-- the master's step

plain_answers : (sent : List Message) (sender receiver : Node) (b : Body) → is_no_answer b ≡ true → IsAnswered sent sender receiver b
plain_answers sent sender receiver (body.Told number l) is = absurd (true≢false (sym is))
plain_answers sent sender receiver (body.Refused number refusal) is = absurd (true≢false (sym is))
plain_answers sent sender receiver (body.Bytes number bytes) is = absurd (true≢false (sym is))
plain_answers sent sender receiver (body.LenIs number count) is = absurd (true≢false (sym is))
plain_answers sent sender receiver other is = tt

mastered : (w : WorldState) (moment : ℕ) (i : NodeInput) (choice : Choice) → ((m : Message) → i ≡ input.Deliver m → IsAmong w.sent m) → AllOf (Answers w.sent) (master_step w.master moment i choice).out.sent
mastered w moment i choice came =
    master_refuses_asks w.master moment i choice (Answers w.sent)
    (record {
      plain = λ receiver b is. plain_answers w.sent node.Master receiver b is;
      refuses = λ receiver number refusal taken why. inr (refl, record { ask = taken.ask; file = taken.file; what = taken.what; deadline = taken.deadline; lost = taken.lost; sent_is = came taken.ask taken.came; sender_is = taken.sender_is; body_is = taken.body_is });
      none = λ receiver number taken. record { ask = taken.ask; file = taken.file; what = taken.what; deadline = taken.deadline; lost = taken.lost; sent_is = came taken.ask taken.came; sender_is = taken.sender_is; body_is = taken.body_is };
      tells = λ receiver number l taken known.
          record { ask = taken.taken.ask; file = taken.taken.file; what = taken.taken.what; deadline = taken.taken.deadline; lost = taken.taken.lost; sent_is = came taken.taken.ask taken.taken.came; sender_is = taken.taken.sender_is; body_is = taken.taken.body_is };
    })

-- worlds

abbrev AreAnswered : List Message → Type 0
AreAnswered sent = (place : ℕ) (m : Message) → element_at sent place ≡ Some m → Answers sent m

more_answered : (sent : List Message) (k : ℕ) (ms : List Message) → AreAnswered sent → AllOf (Answers sent) ms → AreAnswered (sent ++ stamped k ms)
more_answered sent k ms h all place m at =
    elim (later_cases sent k ms place m at) [
      | inl before ↦ later_answers sent (stamped k ms) m.sender m.receiver m.body (h place m before)
      | inr new ↦ later_answers sent (stamped k ms) m.sender m.receiver m.body
          (subst (λ (n : Node). IsAnswered sent n m.receiver m.body) (new.2).0 (subst (λ (n : Node). IsAnswered sent (new.0).sender n m.body) (new.2).1
          (subst (λ (b : Body). IsAnswered sent (new.0).sender (new.0).receiver b) (new.2).2 (all_at (Answers sent) ms (new.1).0 new.0 all (new.1).1))))
    ]

record IsFine (w : WorldState) : Type 0 where
  numbered : AreNumbered w.sent w.clients
  answered : AreAnswered w.sent

each_fine : (w : WorldState) → IsFine w → HoldsAfter w (λ e x. IsFine x.world)
each_fine w h =
    let numbered = each_event w h.numbered in
    let k : ℕ = suc (length w.sent) in
    record {
      nothing = λ e. h;
      masters = λ e moment i choice is up.
          record { numbered = numbered.masters e moment i choice is up; answered = more_answered w.sent k (master_step w.master moment i choice).out.sent h.answered (mastered w moment i choice (came_to w e node.Master moment i is)) };
      opens = λ e moment choice.
          record { numbered = numbered.opens e moment choice; answered = more_answered w.sent k (master_restart w.master moment choice).out.sent h.answered (restart_silent (Answers w.sent) w.master moment choice) };
      serves = λ e index moment s i choice at is up.
          record {
            numbered = numbered.serves e index moment s i choice at is up;
            answered = more_answered w.sent k (server_step s moment i choice).out.sent h.answered (served w.sent s moment i choice (came_to w e (the_server (suc index)) moment i is));
          };
      restarts = λ e index moment s choice at.
          record { numbered = numbered.restarts e index moment s choice at; answered = more_answered w.sent k (server_restart s moment choice).out.sent h.answered (restarted w.sent s moment choice choice.ending) };
      steps = λ e index moment s i choice at is up.
          record {
            numbered = numbered.steps e index moment s i choice at is up;
            answered = more_answered w.sent k (client_step s moment i choice).out.sent h.answered
                (all_telling_none w.sent (client_step s moment i choice).out.sent (step_asks s ((h.numbered).each index s at).named moment i choice));
          };
      calls = λ e index moment s c choice at may.
          record {
            numbered = numbered.calls e index moment s c choice at may;
            answered = more_answered w.sent k (client_call s moment c choice).out.sent h.answered
                (all_telling_none w.sent (client_call s moment c choice).out.sent (call_asks s ((h.numbered).each index s at).named moment c choice));
          };
      rots = λ e index handle s r place byte ending is_kept at there up. record { numbered = h.numbered; answered = h.answered };
    }

new_fine : (config : Config) (servers clients : ℕ) → IsFine (new_world config servers clients)
new_fine config servers clients = record { numbered = numbered_reached config servers clients (new_world config servers clients) ([], refl); answered = λ place m none. none_some m none }

answered_reached : (config : Config) (servers clients : ℕ) (w : WorldState) → IsReached config servers clients w → AreAnswered w.sent
answered_reached config servers clients w r = (world_reached IsFine each_fine new_fine config servers clients w r).answered

-- the law

module _ (config : Config) (servers clients : ℕ) (w : WorldState) (r : IsReached config servers clients w) (index : ℕ) (s : ClientState) (at : element_at w.clients index ≡ Some s) (up : IsTrue s.up) where
  request_of : (m : Message) → IsAmong w.sent m → m.sender ≡ the_client (suc index) → IsRequestOf s m.body
  request_of m there own = requests_carry_used_numbers config servers clients w r index s at up there.0 m there.1 own

  asked_used : (number : ℕ) → HasAsk w.sent (the_client (suc index)) number → number ≤ s.number
  asked_used number h = subst (λ (b : Body). IsRequestOf s b) h.body_is (request_of h.ask h.sent_is h.sender_is)

  read_used : (number : ℕ) (b : Body) → IsReading number b → IsRequestOf s b → number ≤ s.number
  read_used number (body.Read n handle version offset count) same h = subst (λ (k : ℕ). k ≤ s.number) same h
  read_used number (body.Len n handle version) same h = subst (λ (k : ℕ). k ≤ s.number) same h
  read_used number other same h = absurd same

  mutate_used : (number : ℕ) → IsSpentUp w (data_id (suc index) number) → number ≤ s.number
  mutate_used number spent =
      elim (spent) [
        | inl used ↦ (subst (λ (b : Body). IsRequestOf s b) used.asks.body_is (request_of used.asks.asked used.asks.sent_is used.asks.sender_is)).1
        | inr late ↦ (subst (λ (b : Body). IsRequestOf s b) late.body_is (request_of late.asked late.sent_is late.sender_is)).1
      ]

  refused_used : (place : ℕ) (m : Message) → element_at w.sent place ≡ Some m → m.receiver ≡ the_client (suc index) → (number : ℕ) (refusal : Refusal) → m.body ≡ body.Refused number refusal
      → IsFinal refusal → IsAnswered w.sent m.sender m.receiver (body.Refused number refusal) → number ≤ s.number
  refused_used place m there to number refusal is final answered =
      elim (answered) [
        | inl from ↦ elim (answers_known config servers clients w r place from.0 m there from.1 (data_id (suc index) number) (inr (refusal, to, is, final))) [
          | inl spent ↦ mutate_used number spent
          | inr reads ↦ read_used number reads.asked.body reads.reads (request_of reads.asked reads.sent_is reads.sender_is)
        ]
        | inr asked ↦ asked_used number (subst (λ (n : Node). HasAsk w.sent n number) to asked.1)
      ]

  read_by : (receiver : Node) → receiver ≡ the_client (suc index) → (number : ℕ) → HasRead w.sent receiver number → number ≤ s.number
  read_by receiver to number h = read_used number (h.asked).body h.reads (request_of h.asked h.sent_is (h.sender_is ∙ to))

  used : (place : ℕ) (m : Message) → element_at w.sent place ≡ Some m → m.receiver ≡ the_client (suc index) → (b : Body) → m.body ≡ b → IsAnswered w.sent m.sender m.receiver b → IsOfUsed s.number b
  used place m there to (body.Told number l) is h = asked_used number (subst (λ (n : Node). HasAsk w.sent n number) to h)
  used place m there to (body.Refused number refusal) is h = by_refusal refusal is h
    where
      by_refusal : (x : Refusal) → m.body ≡ body.Refused number x → IsAnswered w.sent m.sender m.receiver (body.Refused number x) → IsOfUsed s.number (body.Refused number x)
      by_refusal NoLease same g = tt
      by_refusal other same g = refused_used place m there to number other same tt g
  used place m there to (body.Bytes number bytes) is h = read_by m.receiver to number h
  used place m there to (body.LenIs number count) is h = read_by m.receiver to number h
  used place m there to other is h = tt

pub answers_carry_used_numbers : AnswersCarryUsedNumbers
answers_carry_used_numbers config servers clients w r index s at up place m there to =
    used config servers clients w r index s at up place m there to m.body refl (answered_reached config servers clients w r place m there)

-- a refusal that a client or a node is told is a server's, or the master's, which was asked
pub refusals_come_from : (config : Config) (servers clients : ℕ) (w : WorldState) → IsReached config servers clients w → (place : ℕ) (m : Message) → element_at w.sent place ≡ Some m → (number : ℕ) (refusal : Refusal) → m.body ≡ body.Refused number refusal
    → ((server : ℕ) × (m.sender ≡ the_server server)) ⊎ (m.sender ≡ node.Master)
refusals_come_from config servers clients w r place m there number refusal is =
    elim (subst (λ (b : Body). IsAnswered w.sent m.sender m.receiver b) is (answered_reached config servers clients w r place m there)) [ inl from ↦ inl from | inr asked ↦ inr asked.0 ]
