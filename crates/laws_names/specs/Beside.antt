-- A machine that was run by names alone, beside a cell: its run shows the trace of name calls, its names are the log's, and its open calls are the name calls of the clients that are up (sections 2.4, 2.7 and 4.1).
use Rattle.std.specs.Prelude.{◌≡◌, ℕ, suc, ◌+◌, ◌≤◌, nat_lt, Bool, true, false, filter, List, [], ◌∷◌, ◌++◌, Option, Some, None, IsTrue, IsFalse}
use Rattle.gfs_types.specs.declared.config.Config.{Config}
use Rattle.gfs_types.specs.declared.answer.Answer.{Answer}
use Rattle.messages.specs.declared.event.NodeInput.{NodeInput}
use Rattle.messages.specs.declared.event.NodeInput.TheVariants as input
use Rattle.messages.specs.declared.message.Body.{Body}
use Rattle.messages.specs.declared.message.Body.TheVariants as body
use Rattle.messages.specs.declared.message.Message.{Message}
use Rattle.relaxed_file.specs.Machine.{Machine, OpenCall, new_machine}
use Rattle.relaxed_file.specs.NameStep.{is_look}
use Rattle.relaxed_file.specs.Run.{Visible, Answered, visible}
use Rattle.machine_names.specs.NameRuns.{LeadsByNames}
use Rattle.machine_names.specs.NameTraces.{none_called, last_calls, is_naming, name_trace}
use Rattle.client_state.specs.declared.call.CurrentCall.{CurrentCall}
use Rattle.client_state.specs.declared.call.Stage.{Stage}
use Rattle.client_state.specs.declared.call.Stage.TheVariants.{AskedNames}
use Rattle.protocol.specs.Tables.{Table, element_at}
use Rattle.protocol.specs.Sending.{the_client, client_number}
use Rattle.protocol.specs.Logged.{Logged, KeptCall}
use Rattle.protocol.specs.Master.{PendingSnapshot}
use Rattle.protocol.specs.Client.{ClientState}
use Rattle.laws_names.specs.Alike.{Requests, AreAlike, IsWaiting}
use Rattle.laws_names.specs.Followed.{IsTold}
use Rattle.laws_names.specs.FollowedClients.{IsBesideClient}
use Rattle.laws_names.specs.OpenRequests.{IsOldOrOpen, AreNotLater}

abbrev pub WasSent : List Message → Message → Type 0
WasSent sent x = (place : ℕ) × (element_at sent place ≡ Some x)

-- the snapshots of which the deadline and the clock bound are not past
abbrev pub lasts : ℕ → ℕ → PendingSnapshot → Bool
lasts skew clock s = nat_lt clock (s.deadline + skew)

abbrev pub lasting : ℕ → ℕ → List PendingSnapshot → List PendingSnapshot
lasting skew clock ss = filter (lasts skew clock) ss

-- What is known of a request on names: a Name was answered, or is too late, or is of its client's open call; a Look under the number of that call is of it.
abbrev pub IsKnown : Table KeptCall → Machine → Requests → ℕ → Body → Type 0
IsKnown kept m requests client (body.Name number deadline c) = IsFalse (is_look c) × IsOldOrOpen kept m requests client number deadline.0 c
IsKnown kept m requests client (body.Look number c) = IsTrue (is_look c) × ((current : OpenCall) → IsWaiting m requests client number current → current.asked.call ≡ c)
IsKnown kept m requests client other = Unit {0}

-- the machine beside what was seen and sent, and beside the log with the snapshots that wait
pub record IsNamesBeside (config : Config) (trace : List Visible) (greatest : ℕ) (sent : List Message) (l : Logged) (ss : List PendingSnapshot) (m : Machine) (requests : Requests) : Type 0 where
  pub run : LeadsByNames (new_machine config) m
  pub seen : visible run.0 ≡ name_trace trace
  pub clock : m.clock ≡ greatest
  pub alike : AreAlike l (lasting config.skew_ms greatest ss) m requests
  pub told : (x : Message) → WasSent sent x → IsTold m requests x
  pub known : (x : Message) → WasSent sent x → IsKnown l.kept m requests (client_number x.sender) x.body
  pub later : AreNotLater requests l.kept

abbrev pub is_asked_names : Stage → Bool
is_asked_names AskedNames = true
is_asked_names other = false

-- a client that is up
pub record IsClientBeside (config : Config) (trace : List Visible) (greatest : ℕ) (s : ClientState) (m : Machine) (requests : Requests) (client : ℕ) : Type 0 where
  pub beside : IsBesideClient s m requests client
  pub naming : (c : CurrentCall) → s.current ≡ Some c → is_naming (last_calls none_called trace client) ≡ is_asked_names c.stage
  pub settings : s.config ≡ config
  pub now : s.now ≤ greatest

abbrev pub AreClientsBeside : Config → List Visible → ℕ → List ClientState → Machine → Requests → Type 0
AreClientsBeside config trace greatest clients m requests = (index : ℕ) (s : ClientState) → element_at clients index ≡ Some s → IsTrue s.up → IsClientBeside config trace greatest s m requests (suc index)

-- a machine beside a cell
abbrev pub Beside : Config → List Visible → ℕ → List ClientState → List Message → Logged → List PendingSnapshot → Type 0
Beside config trace greatest clients sent l ss =
    (m : Machine) × (requests : Requests) × IsNamesBeside config trace greatest sent l ss m requests × AreClientsBeside config trace greatest clients m requests

-- what is seen of an answer, if there is one
abbrev pub answered_trace : ℕ → Option Answer → List Visible → List Visible
answered_trace client None trace = trace
answered_trace client (Some reply) trace = trace ++ Answered client reply ∷ []

-- what comes in was sent to the client
abbrev pub ComesTo : List Message → ℕ → NodeInput → Type 0
ComesTo sent client (input.Deliver x) = WasSent sent x × (x.receiver ≡ the_client client)
ComesTo sent client input.Tick = Unit {0}
