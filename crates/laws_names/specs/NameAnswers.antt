-- A client's name call waits for the master from its first step on, and its answer is what the master told, or Unknown (sections 2.7.1 and 2.7.2).
use Rattle.std.specs.Prelude.{◌≡◌, ◌⊎◌, ℕ, suc, ◌+◌, ◌≤◌, max, Some, None, IsTrue}
use Rattle.gfs_types.specs.declared.shape.Shape.{Shape}
use Rattle.gfs_types.specs.declared.ids.FileId.{FileId}
use Rattle.gfs_types.specs.declared.call.Call.{Call}
use Rattle.gfs_types.specs.declared.answer.Answer.{Answer}
use Rattle.gfs_types.specs.declared.answer.Answer.TheVariants as answer
use Rattle.gfs_types.specs.declared.refusal.Refusal.TheVariants.{Unknown}
use Rattle.messages.specs.declared.event.NodeInput.{NodeInput}
use Rattle.messages.specs.declared.event.NodeInput.TheVariants as input
use Rattle.messages.specs.declared.message.Body.TheVariants as body
use Rattle.messages.specs.declared.message.NameReply.{NameReply}
use Rattle.messages.specs.declared.message.NameReply.TheVariants.{Opened, Answered}
use Rattle.relaxed_file.specs.NameStep.{is_name_call}
use Rattle.client_state.specs.declared.call.CurrentCall.{CurrentCall}
use Rattle.client_state.specs.declared.call.Stage.TheVariants.{AskedNames}
use Rattle.protocol.specs.Client.{ClientState, ClientDoing}
use Rattle.protocol.specs.ClientStep.{client_goes, client_call_goes}

-- The call of this number is open, and waits for the master.
pub record IsWaiting (d : ClientDoing) (number : ℕ) (asked : Call) : Type 0 where
  pub current : CurrentCall
  pub is_open : d.client.current ≡ Some current
  pub number_is : current.number ≡ number
  pub asked_is : current.asked ≡ asked
  pub stage_is : current.stage ≡ AskedNames
  pub unanswered : d.answer ≡ None

-- the message that came tells this reply under this number
abbrev pub Tells : NodeInput → ℕ → NameReply → Type 0
Tells (input.Deliver m) number reply = m.body ≡ body.Named number reply
Tells input.Tick number reply = ⊥

-- it tells this file, with a shape
abbrev pub TellsFile : NodeInput → ℕ → FileId → Type 0
TellsFile i number file = (shape : Shape) × Tells i number (Opened file shape)

-- Why an answer is given to the open call: the reply came, or the next descriptor for a file that it names, or it is past its last deadline by the clock bound.
abbrev pub IsCaused : ClientState → ℕ → NodeInput → ClientDoing → CurrentCall → Answer → Type 0
IsCaused s moment i d c reply =
    (Tells i c.number (Answered reply) × (d.client.fd_count ≡ s.fd_count))
    ⊎ (((file : FileId) × TellsFile i c.number file × (reply ≡ answer.Fd (record { 0 = suc s.fd_count })) × (d.client.fd_count ≡ suc s.fd_count))
    ⊎ ((reply ≡ answer.Refused Unknown) × (c.deadline.0 + s.config.skew_ms ≤ max s.now moment) × (d.client.fd_count ≡ s.fd_count)))

-- The call is over, and its answer has a cause.
pub record IsOver (s : ClientState) (moment : ℕ) (i : NodeInput) (d : ClientDoing) (c : CurrentCall) : Type 0 where
  pub reply : Answer
  pub answer_is : d.answer ≡ Some reply
  pub none_open : d.client.current ≡ None
  pub caused : IsCaused s moment i d c reply

abbrev pub NameCallsAreAnsweredAsTold : Type 0
NameCallsAreAnsweredAsTold =
    (s : ClientState) (moment : ℕ) (i : NodeInput) (c : CurrentCall) → s.current ≡ Some c → c.stage ≡ AskedNames
    → (IsWaiting (client_goes s moment i) c.number c.asked × ((client_goes s moment i).client.fd_count ≡ s.fd_count))
    ⊎ IsOver s moment i (client_goes s moment i) c

-- A name call waits from its first step on, under the next number.
abbrev pub NameCallsBegin : Type 0
NameCallsBegin =
    (s : ClientState) (moment : ℕ) (c : Call) → IsTrue (is_name_call c) → IsWaiting (client_call_goes s moment c) (suc s.call_count) c × ((client_call_goes s moment c).client.fd_count ≡ s.fd_count)
