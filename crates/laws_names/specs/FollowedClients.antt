-- A client's name call beside the machine, where the master and the machine are alike: what clients see of the machine is what the client does (sections 2.4 and 2.7.1).
use Rattle.std.specs.Prelude.{◌≡◌, ℕ, suc, ◌==◌, not, filter, List, [], ◌∷◌, Option, Some, None, IsTrue}
use Rattle.gfs_types.specs.declared.call.Call.{Call}
use Rattle.gfs_types.specs.declared.answer.Answer.{Answer}
use Rattle.messages.specs.declared.event.NodeInput.{NodeInput}
use Rattle.messages.specs.declared.event.NodeInput.TheVariants as input
use Rattle.messages.specs.declared.message.Message.{Message}
use Rattle.relaxed_file.specs.Machine.{Machine, OpenCall}
use Rattle.relaxed_file.specs.NameStep.{is_name_call}
use Rattle.relaxed_file.specs.Run.{Visible, Called, Answered, visible}
use Rattle.machine_names.specs.NameRuns.{LeadsByNames}
use Rattle.client_state.specs.declared.call.CurrentCall.{CurrentCall}
use Rattle.client_state.specs.declared.call.Stage.{Stage}
use Rattle.client_state.specs.declared.call.Stage.TheVariants.{AskedNames}
use Rattle.protocol.specs.Sending.{client_number}
use Rattle.protocol.specs.Logged.{Logged}
use Rattle.protocol.specs.Master.{PendingSnapshot}
use Rattle.protocol.specs.Client.{ClientState}
use Rattle.protocol.specs.ClientStep.{client_goes, client_call_goes}
use Rattle.laws_names.specs.Alike.{Requests, AreAlike, IsWaiting}
use Rattle.laws_names.specs.Followed.{IsTold}
use Rattle.laws_names.specs.NameClients.{with_request, IsUnkept, IsOfOther, StaysTold}

-- A name call that waits for the master is the one that is open at the machine; for any other call none is.
abbrev pub IsBesideAt : Machine → Requests → ℕ → CurrentCall → Stage → Type 0
IsBesideAt m requests client c AskedNames = (current : OpenCall) × IsWaiting m requests client c.number current × (current.asked.call ≡ c.asked) × IsTrue (is_name_call c.asked)
IsBesideAt m requests client c other = (m.clients client).open_call ≡ None

abbrev pub IsBesideCall : Machine → Requests → ℕ → Option CurrentCall → Type 0
IsBesideCall m requests client None = (m.clients client).open_call ≡ None
IsBesideCall m requests client (Some c) = IsBesideAt m requests client c c.stage

-- a client beside the machine
pub record IsBesideClient (s : ClientState) (m : Machine) (requests : Requests) (client : ℕ) : Type 0 where
  pub call : IsBesideCall m requests client s.current
  pub count : (m.clients client).fd_count ≡ s.fd_count

-- what comes to the client was told truly
abbrev pub IsInputTold : Machine → Requests → ℕ → NodeInput → Type 0
IsInputTold m requests client (input.Deliver x) = (client_number x.receiver ≡ client) × IsTold m requests x
IsInputTold m requests client input.Tick = Unit {0}

abbrev pub answer_shown : ℕ → Option Answer → List Visible
answer_shown client None = []
answer_shown client (Some reply) = Answered client reply ∷ []

-- the snapshots that hold their locks once the client has this answer, or none
abbrev pub snapshots_left : ℕ → Option Answer → List PendingSnapshot → List PendingSnapshot
snapshots_left client None snapshots = snapshots
snapshots_left client (Some reply) snapshots = filter (λ s. not (s.client == client)) snapshots

-- The machine follows a name call as it is made, under a number that nothing has.
abbrev pub NameCallsAreBegun : Type 0
NameCallsAreBegun =
    (l : Logged) (snapshots : List PendingSnapshot) (m : Machine) (requests : Requests) (client : ℕ) (s : ClientState) (moment : ℕ) (c : Call)
    → AreAlike l snapshots m requests → IsBesideClient s m requests client → s.current ≡ None → IsTrue (is_name_call c) → IsUnkept l.kept client (Some (suc s.call_count))
    → (n : Machine) × (run : LeadsByNames m n) × (visible run.0 ≡ Called client c ∷ [])
    × AreAlike l snapshots n (with_request requests client (Some (suc s.call_count)))
    × ((x : Message) → (client_number x.receiver ≡ client → IsOfOther x.body (Some (suc s.call_count))) → StaysTold m requests n (with_request requests client (Some (suc s.call_count))) x)
    × IsBesideClient (client_call_goes s moment c).client n (with_request requests client (Some (suc s.call_count))) client

-- The machine follows each step of a client while its name call is open.
abbrev pub NameCallsAreFollowed : Type 0
NameCallsAreFollowed =
    (l : Logged) (snapshots : List PendingSnapshot) (m : Machine) (requests : Requests) (client : ℕ) (s : ClientState) (moment : ℕ) (i : NodeInput) (c : CurrentCall)
    → AreAlike l snapshots m requests → IsBesideClient s m requests client → s.current ≡ Some c → c.stage ≡ AskedNames → IsInputTold m requests client i
    → (n : Machine) × (run : LeadsByNames m n) × (visible run.0 ≡ answer_shown client (client_goes s moment i).answer)
    × AreAlike l (snapshots_left client (client_goes s moment i).answer snapshots) n requests
    × ((x : Message) → StaysTold m requests n requests x)
    × IsBesideClient (client_goes s moment i).client n requests client
