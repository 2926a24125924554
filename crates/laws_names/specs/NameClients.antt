-- Where the master and the machine have the same names, they stay alike as clients call, are answered, and the clock goes on (sections 2.4 and 2.7.1).
use Rattle.std.specs.Prelude.{◌≡◌, ℕ, suc, ◌==◌, not, filter, List, Option, Some, None, IsTrue, IsFalse}
use Rattle.std.specs.FinMap as table
use Rattle.gfs_types.specs.declared.shape.Shape.{Shape}
use Rattle.gfs_types.specs.declared.ids.FileId.{FileId}
use Rattle.gfs_types.specs.declared.call.Call.{Call}
use Rattle.gfs_types.specs.declared.answer.Answer.{Answer}
use Rattle.gfs_types.specs.declared.answer.Answer.TheVariants as answer
use Rattle.gfs_types.specs.declared.refusal.Refusal.TheVariants.{Unknown, NoMemory}
use Rattle.messages.specs.declared.message.Body.{Body}
use Rattle.messages.specs.declared.message.Body.TheVariants as body
use Rattle.messages.specs.declared.message.Message.{Message}
use Rattle.messages.specs.declared.message.NameReply.TheVariants.{Opened, Answered}
use Rattle.relaxed_file.specs.Machine.{Machine, OpenCall, IsOpen, put}
use Rattle.relaxed_file.specs.NameStep.{is_name_call}
use Rattle.relaxed_file.specs.Run.{Action, Invoke, Return, ReturnFd, Pass, Allows, after}
use Rattle.protocol.specs.Tables.{Table}
use Rattle.protocol.specs.Sending.{client_number}
use Rattle.protocol.specs.Logged.{Logged, KeptCall}
use Rattle.protocol.specs.Master.{PendingSnapshot}
use Rattle.laws_names.specs.Alike.{Requests, AreAlike, IsWaiting}
use Rattle.laws_names.specs.Followed.{IsTold}

-- the client's call waits for the request of this number, if it has one
abbrev pub with_request : Requests → ℕ → Option ℕ → Requests
with_request requests client number = put client number requests

-- the answer that is kept for the client has another number
abbrev pub IsUnkept : Table KeptCall → ℕ → Option ℕ → Type 0
IsUnkept kept client number = (k : KeptCall) → table.get kept client ≡ Some k → number ≡ Some k.number → ⊥

-- this tells no answer under this number
abbrev pub IsOfOther : Body → Option ℕ → Type 0
IsOfOther (body.Named named reply) number = number ≡ Some named → ⊥
IsOfOther other number = Unit {0}

-- what clients were told stays so
abbrev pub StaysTold : Machine → Requests → Machine → Requests → Message → Type 0
StaysTold m before n later x = IsTold m before x → IsTold n later x

-- A call begins where none is open, under a number that no answer has.
abbrev pub CallsBegin : Type 0
CallsBegin =
    (l : Logged) (snapshots : List PendingSnapshot) (m : Machine) (requests : Requests) (client : ℕ) (number : Option ℕ) (c : Call)
    → AreAlike l snapshots m requests → (m.clients client).open_call ≡ None → IsUnkept l.kept client number
    → Allows m (Invoke client c) × AreAlike l snapshots (after m (Invoke client c)) (with_request requests client number)
    × ((x : Message) → (client_number x.receiver ≡ client → IsOfOther x.body number) → StaysTold m requests (after m (Invoke client c)) (with_request requests client number) x)

abbrev pub IsAnswerTo : ℕ → Action → Type 0
IsAnswerTo client (Return answered reply) = answered ≡ client
IsAnswerTo client (ReturnFd answered fd file) = answered ≡ client
IsAnswerTo client other = ⊥

-- A call is answered: of the snapshots those of other clients hold their locks on.
abbrev pub AnswersEndCalls : Type 0
AnswersEndCalls =
    (l : Logged) (snapshots : List PendingSnapshot) (m : Machine) (requests : Requests) (client : ℕ) (action : Action)
    → AreAlike l snapshots m requests → IsAnswerTo client action → Allows m action
    → AreAlike l (filter (λ s. not (s.client == client)) snapshots) (after m action) requests
    × ((x : Message) → StaysTold m requests (after m action) requests x)

-- What a client was told of its open name call may be its answer: a reply, or the next descriptor for a file that was opened.
abbrev pub ToldAnswersAreAllowed : Type 0
ToldAnswersAreAllowed =
    (m : Machine) (requests : Requests) (x : Message) (client number : ℕ) (current : OpenCall)
    → IsTold m requests x → client_number x.receiver ≡ client → IsWaiting m requests client number current → IsTrue (is_name_call current.asked.call)
    → ((reply : Answer) → x.body ≡ body.Named number (Answered reply) → Allows m (Return client reply))
    × ((file : FileId) (shape : Shape) → x.body ≡ body.Named number (Opened file shape) → Allows m (ReturnFd client (suc (m.clients client).fd_count) file.0))

-- A name call may be answered Unknown, and NoMemory before a step of it was taken.
abbrev pub NameCallsMayGiveUp : Type 0
NameCallsMayGiveUp =
    (m : Machine) (client : ℕ) (current : OpenCall) → IsOpen m client current → IsTrue (is_name_call current.asked.call)
    → Allows m (Return client (answer.Refused Unknown)) × (IsFalse current.has_begun → Allows m (Return client (answer.Refused NoMemory)))

abbrev pub MomentsPass : Type 0
MomentsPass =
    (l : Logged) (snapshots : List PendingSnapshot) (m : Machine) (requests : Requests) (moment : ℕ) → AreAlike l snapshots m requests
    → AreAlike l snapshots (after m (Pass moment)) requests × ((x : Message) → StaysTold m requests (after m (Pass moment)) requests x)
