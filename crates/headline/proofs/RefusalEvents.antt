-- What an event does to a client that waits for the answer to an ask, and what the master refuses for its length in an event.
use Rattle.std.proofs.Common.{◌≡◌, ◌⊎◌, ℕ, suc, ◌<◌, Bool, true, true≢false, List, [], ◌∷◌, length, Option, Some, None, refl, sym, ap, subst, ◌∙◌, inl, inr, arith}
use Rattle.std.specs.Prelude.{◌&&◌, is_none, IsTrue}
use Rattle.std.proofs.lemmas.Bool.{and_parts, cases_eq, ne_eqb}
use Rattle.gfs_types.specs.declared.call.Call.{Call}
use Rattle.gfs_types.specs.declared.ids.FileId.{FileId}
use Rattle.gfs_types.specs.declared.ids.Moment.{Moment}
use Rattle.gfs_types.specs.declared.ids.Node.{Node}
use Rattle.gfs_types.specs.declared.ids.Node.TheVariants as node
use Rattle.gfs_types.specs.declared.refusal.Refusal.{Refusal}
use Rattle.gfs_types.specs.declared.refusal.Refusal.TheVariants.{TooLong}
use Rattle.messages.specs.declared.event.NodeInput.{NodeInput}
use Rattle.messages.specs.declared.event.NodeInput.TheVariants as input
use Rattle.messages.specs.declared.message.Body.{Body}
use Rattle.messages.specs.declared.message.Body.TheVariants as body
use Rattle.messages.specs.declared.message.Message.{Message}
use Rattle.messages.specs.declared.message.Wanted.{Wanted}
use Rattle.messages.specs.declared.message.Wanted.TheVariants as wanted
use Rattle.client_state.specs.declared.call.CurrentCall.{CurrentCall}
use Rattle.client_state.specs.declared.call.Stage.{Stage}
use Rattle.client_state.specs.declared.call.Stage.TheVariants.{AskedWhere}
use Rattle.chunk_table.specs.ChunkTable.{file_of}
use Rattle.relaxed_file.specs.Run.{Called}
use Rattle.protocol.specs.Tables.{element_at, with_at}
use Rattle.protocol.specs.Sending.{the_client, the_server}
use Rattle.protocol.specs.Choice.{Choice, Ending, Goes, Lost, Stops}
use Rattle.protocol.specs.Client.{ClientState, ClientDoing}
use Rattle.protocol.specs.ClientStep.{client_at, client_goes, client_call_goes, client_step, client_call, has_room_to_count}
use Rattle.protocol.specs.MasterStep.{master_step, master_restart}
use Rattle.protocol.specs.Observer.{observed_moment, calls_made}
use Rattle.protocol.specs.Server.{ServerState}
use Rattle.protocol.specs.ServerStep.{server_step, server_at, server_restarts, server_restart}
use Rattle.protocol.specs.World.{WorldState, Happened}
use Rattle.laws_base.proofs.Steps.{none_some}
use Rattle.laws_base.proofs.Entries.{AllOf}
use Rattle.laws_base.proofs.MembersRecorded.{all_at}
use Rattle.laws_base.proofs.RisingOrders.{set_cases}
use Rattle.laws_base.proofs.ClientReads.{stepped, called}
use Rattle.laws_base.proofs.Events.{HoldsAfter, with_call}
use Rattle.laws_versions.proofs.ServerCauses.{step_words}
use Rattle.laws_base.specs.Entries.{IsAmong}
use Rattle.laws_base.proofs.RisingRounds.{restart_silent}
use Rattle.laws_machine.proofs.Answerers.{came_to}
use Rattle.laws_machine.proofs.LaterCalls.{put_at, calls_joined, calls_passed, calls_answered}
use Rattle.laws_machine.proofs.UsedIndexes.{no_call}
use Rattle.laws_base.proofs.MasterPremises.{IsTakenAsk, IsRefusedFor}
use Rattle.laws_machine.proofs.MasterRefusals.{is_no_answer, master_refuses_asks}
use Rattle.headline.proofs.SentNow.{step_left, call_left}
use Rattle.headline.proofs.StepStages.{IsNewStage, IsNewCall, next_step, next_call}

-- the client waits on in its call
pub record IsWaitingOn (w : WorldState) (x : Happened) (index : ℕ) (c : CurrentCall) : Type 0 where
  pub client : ClientState
  pub is : element_at w.clients index ≡ Some client
  pub up : IsTrue client.up
  pub current_is : client.current ≡ Some c
  pub calls : calls_made x.world.observer.trace (suc index) ≡ calls_made w.observer.trace (suc index)

-- or it asked in the event, under a number that is new
pub record IsAskingAnew (w : WorldState) (index number : ℕ) : Type 0 where
  pub client : ClientState
  pub is : element_at w.clients index ≡ Some client
  pub up : IsTrue client.up
  pub new : client.number < number

abbrev pub WaitOn : WorldState → Happened → Type 0
WaitOn w x =
    (index number : ℕ) (s : ClientState) (c : CurrentCall) → element_at x.world.clients index ≡ Some s → IsTrue s.up → s.current ≡ Some c → c.stage ≡ AskedWhere number → IsWaitingOn w x index c ⊎ IsAskingAnew w index number

-- what is put in a list
at_either : (clients : List ClientState) (index : ℕ) (s t : ClientState) (other : ℕ) (u : ClientState) → element_at clients index ≡ Some s → element_at (with_at clients index t) other ≡ Some u
    → ((other ≡ index) × (u ≡ t)) ⊎ ((other ≡ index → ⊥) × (element_at clients other ≡ Some u))
at_either clients index s t other u there at = elim (cases_eq other index) [
  | inl same ↦ inl (same, put_at t clients index u (ap (λ (n : ℕ). element_at (with_at clients index t) n) (sym same) ∙ at))
  | inr apart ↦ elim (set_cases clients index t other u at) [
    | inl both ↦ absurd (apart both.0)
    | inr before ↦ inr (apart, before)
  ]
]

-- a client that goes on waits as before, or under a new number
abbrev Waits : ClientState → ClientState → Type 0
Waits s t = (c : CurrentCall) (number : ℕ) → t.current ≡ Some c → c.stage ≡ AskedWhere number → (s.current ≡ Some c) ⊎ (s.number < number)

new_number : (s : ClientState) (o : Option CurrentCall) → IsNewCall s o → (c : CurrentCall) (number : ℕ) → o ≡ Some c → c.stage ≡ AskedWhere number → s.number < number
new_number s o new c number is staged = subst (λ (st : Stage). IsNewStage s st) staged (subst (λ (p : Option CurrentCall). IsNewCall s p) is new)

step_waits : (s : ClientState) (moment : ℕ) (i : NodeInput) (choice : Choice) → Waits s (client_step s moment i choice).state
step_waits s moment i choice =
    stepped (λ t ms. Waits s t) s moment i choice
    (λ c number is staged. elim (next_step s moment i) [
      | inl same ↦ inl (sym (ap (λ (d : ClientDoing). d.client.current) same) ∙ is)
      | inr new ↦ inr (new_number (client_at s moment) (client_goes s moment i).client.current new.1 c number is staged)
    ])
    (λ c number is staged. none_some c is) (λ c number is staged. inl is)

call_waits : (s : ClientState) (moment : ℕ) (c : Call) (choice : Choice) → s.current ≡ None → (d : CurrentCall) (number : ℕ) → (client_call s moment c choice).state.current ≡ Some d → d.stage ≡ AskedWhere number → s.number < number
call_waits s moment c choice none =
    called (λ t ms. (d : CurrentCall) (number : ℕ) → t.current ≡ Some d → d.stage ≡ AskedWhere number → s.number < number) s moment c choice
    (λ d number is staged. new_number s (client_call_goes s moment c).client.current (next_call s moment c none).1 d number is staged) (λ d number is staged. none_some d is) (λ d number is staged. none_some d is)

pub each_waits : (w : WorldState) → HoldsAfter w (λ e x. WaitOn w x)
each_waits w =
    record {
      nothing = λ e index number s c at up is staged. inl (record { client = s; is = at; up = up; current_is = is; calls = refl });
      masters = λ e moment i choice given there index number s c at up is staged. inl (record { client = s; is = at; up = up; current_is = is; calls = calls_passed w.config.skew_ms w.observer moment (suc index) });
      opens = λ e moment choice index number s c at up is staged. inl (record { client = s; is = at; up = up; current_is = is; calls = calls_passed w.config.skew_ms w.observer moment (suc index) });
      serves = λ e server moment q i choice there given awake index number s c at up is staged. inl (record { client = s; is = at; up = up; current_is = is; calls = calls_passed w.config.skew_ms w.observer moment (suc index) });
      restarts = λ e server moment q choice there index number s c at up is staged. inl (record { client = s; is = at; up = up; current_is = is; calls = calls_passed w.config.skew_ms w.observer moment (suc index) });
      steps = λ e here moment q i choice there given awake index number s c at up is staged.
          let calls = calls_answered (observed_moment w.config.skew_ms w.observer moment) (suc here) (suc index) (client_step q moment i choice).out.answer ∙ calls_passed w.config.skew_ms w.observer moment (suc index) in
          elim (at_either w.clients here q (client_step q moment i choice).state index s there at) [
            | inl both ↦
                let before : element_at w.clients index ≡ Some q = ap (λ (n : ℕ). element_at w.clients n) both.0 ∙ there in
                elim (step_waits q moment i choice c number (ap (λ (t : ClientState). t.current) (sym both.1) ∙ is) staged) [
                  | inl same ↦ inl (record { client = q; is = before; up = awake; current_is = same; calls = calls })
                  | inr new ↦ inr (record { client = q; is = before; up = awake; new = new })
                ]
            | inr other ↦ inl (record { client = s; is = other.1; up = up; current_is = is; calls = calls })
          ];
      calls = λ e here moment q k choice there may index number s c at up is staged.
          elim (at_either w.clients here q (client_call q moment k choice).state index s there at) [
            | inl both ↦ inr (record {
              client = q;
              is = ap (λ (n : ℕ). element_at w.clients n) both.0 ∙ there;
              up = (and_parts q.up (is_none q.current && has_room_to_count q) may).0;
              new = call_waits q moment k choice (no_call q may) c number (ap (λ (t : ClientState). t.current) (sym both.1) ∙ is) staged;
            })
            | inr other ↦ inl (record {
              client = s;
              is = other.1;
              up = up;
              current_is = is;
              calls = calls_answered (observed_moment w.config.skew_ms (with_call w here moment k).observer moment) (suc here) (suc index) (client_call q moment k choice).out.answer
                  ∙ calls_passed w.config.skew_ms (with_call w here moment k).observer moment (suc index)
                  ∙ calls_joined (suc index) (observed_moment w.config.skew_ms w.observer moment).trace (Called (suc here) k) (ne_eqb (suc here) (suc index) (λ same. other.0 (omega (arith, same))))
                  ∙ calls_passed w.config.skew_ms w.observer moment (suc index);
            })
          ];
      rots = λ e server handle q r place byte ending kept there at_disk awake index number s c at up is staged. inl (record { client = s; is = at; up = up; current_is = is; calls = refl });
    }

-- what the master refuses

-- an Ask was sent by this node for a chunk past the next one of its file
pub record IsShortFor (w : WorldState) (asker : Node) (number : ℕ) : Type 0 where
  pub ask : Message
  pub file : FileId
  pub index : ℕ
  pub handles : List ℕ
  pub deadline : Moment
  pub lost : Bool
  pub sent_is : IsAmong w.sent ask
  pub sender_is : ask.sender ≡ asker
  pub body_is : ask.body ≡ body.Ask number file (wanted.Write index) deadline lost
  pub list_is : file_of w.master.logged.table file.0 ≡ Some handles
  pub low : length handles < index

abbrev pub IsLongWord : WorldState → Node → Body → Type 0
IsLongWord w receiver (body.Refused number TooLong) = IsTrue w.master.up × IsShortFor w receiver number
IsLongWord w receiver other = Unit {0}

abbrev pub RefusesLong : WorldState → Happened → Type 0
RefusesLong w x = (place : ℕ) (m : Message) → element_at x.out.sent place ≡ Some m → m.sender ≡ node.Master → IsLongWord w m.receiver m.body

plain_word : (w : WorldState) (receiver : Node) (b : Body) → is_no_answer b ≡ true → IsLongWord w receiver b
plain_word w receiver (body.Refused number refusal) is = absurd (true≢false (sym is))
plain_word w receiver other is = tt

refused_word : (w : WorldState) → IsTrue w.master.up → (i : NodeInput) → ((m : Message) → i ≡ input.Deliver m → IsAmong w.sent m) → (receiver : Node) (number : ℕ) (refusal : Refusal) (taken : IsTakenAsk i receiver number)
    → IsRefusedFor w.master.logged taken.file.0 taken.what refusal → IsLongWord w receiver (body.Refused number refusal)
refused_word w up i came receiver number TooLong taken why = (
  up,
  record {
    ask = taken.ask;
    file = taken.file;
    index = why.0;
    handles = why.1;
    deadline = taken.deadline;
    lost = taken.lost;
    sent_is = came taken.ask taken.came;
    sender_is = taken.sender_is;
    body_is = taken.body_is ∙ ap (λ (x : Wanted). body.Ask number taken.file x taken.deadline taken.lost) why.2;
    list_is = why.3;
    low = why.4;
  },
)
refused_word w up i came receiver number other taken why = tt

mastered : (w : WorldState) → IsTrue w.master.up → (moment : ℕ) (i : NodeInput) (choice : Choice) → ((m : Message) → i ≡ input.Deliver m → IsAmong w.sent m) → AllOf (λ m. IsLongWord w m.receiver m.body) (master_step w.master moment i choice).out.sent
mastered w up moment i choice came =
    master_refuses_asks w.master moment i choice (λ m. IsLongWord w m.receiver m.body)
    (record {
      plain = λ receiver b is. plain_word w receiver b is;
      refuses = λ receiver number refusal taken why. refused_word w up i came receiver number refusal taken why;
      none = λ receiver number taken. tt;
      tells = λ receiver number l taken known. tt;
    })

-- no other node is the master

restarted : (s : ServerState) (moment : ℕ) (choice : Choice) (e : Ending) → AllOf (λ m. m.sender ≡ node.Master → ⊥) (server_restarts s moment choice e).out.sent
restarted s moment choice Goes = tt
restarted s moment choice Lost = tt
restarted s moment choice (Stops made) = tt

not_masters : (w : WorldState) (sent : List Message) → AllOf (λ m. m.sender ≡ node.Master → ⊥) sent → (place : ℕ) (m : Message) → element_at sent place ≡ Some m → m.sender ≡ node.Master → IsLongWord w m.receiver m.body
not_masters w sent all place m at from = absurd (all_at (λ x. x.sender ≡ node.Master → ⊥) sent place m all at from)

of_server : (server : ℕ) (ms : List Message) → AllOf (λ m. (m.sender ≡ the_server server) × Unit {0}) ms → AllOf (λ m. m.sender ≡ node.Master → ⊥) ms
of_server server [] all = tt
of_server server (m ∷ ms) all = (λ from. absurd (let both : the_server server ≡ node.Master = sym all.0.0 ∙ from in cc), of_server server ms all.1)

client_is_not : (client : ℕ) (m : Message) → m.sender ≡ the_client client → m.sender ≡ node.Master → ⊥
client_is_not client m is from = absurd (let both : the_client client ≡ node.Master = sym is ∙ from in cc)

pub each_refuses : (w : WorldState) → HoldsAfter w (λ e x. RefusesLong w x)
each_refuses w =
    record {
      nothing = λ e place m at. none_some m at;
      masters = λ e moment i choice given up place m at from. all_at (λ x. IsLongWord w x.receiver x.body) (master_step w.master moment i choice).out.sent place m (mastered w up moment i choice (came_to w e node.Master moment i given)) at;
      opens = λ e moment choice place m at from. all_at (λ x. IsLongWord w x.receiver x.body) (master_restart w.master moment choice).out.sent place m (restart_silent (λ x. IsLongWord w x.receiver x.body) w.master moment choice) at;
      serves = λ e index moment s i choice there given up.
          not_masters w (server_step s moment i choice).out.sent
          (of_server s.id (server_step s moment i choice).out.sent (step_words s.id (server_at s moment).now (λ b. Unit {0}) (λ b is. tt) s moment i choice refl refl (λ _. tt) (λ m came order handle version of new. tt)));
      restarts = λ e index moment s choice there. not_masters w (server_restart s moment choice).out.sent (restarted s moment choice choice.ending);
      steps = λ e index moment s i choice there given up place m at from. absurd (client_is_not s.id m ((step_left s moment i choice).says place m at).0 from);
      calls = λ e index moment s c choice there may place m at from. absurd (client_is_not s.id m ((call_left s moment c choice).says place m at).0 from);
      rots = λ e index handle s r place byte ending kept there disk up at m none. none_some m none;
    }
