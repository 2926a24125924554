-- Laws of every lawful list of events on clients, their requests and the locations that they use, that public functions of this crate state.
use Rattle.std.specs.Prelude.{◌≡◌, ℕ, suc, ◌≤◌, Bool, false, ◌==◌, ◌&&◌, List, count_by, Option, Some, None, IsTrue}
use Rattle.gfs_types.specs.declared.config.Config.{Config}
use Rattle.gfs_types.specs.declared.ids.Node.{Node}
use Rattle.gfs_types.specs.declared.ids.Node.TheVariants as node
use Rattle.messages.specs.declared.message.Message.{Message}
use Rattle.messages.specs.declared.message.Body.{Body}
use Rattle.messages.specs.declared.message.Body.TheVariants as body
use Rattle.client_state.specs.declared.call.CurrentCall.{CurrentCall}
use Rattle.client_state.specs.declared.call.Stage.{Stage}
use Rattle.client_state.specs.declared.call.Stage.TheVariants.{SentData}
use Rattle.protocol.specs.Tables.{element_at}
use Rattle.protocol.specs.Sending.{the_client}
use Rattle.protocol.specs.Client.{ClientState}
use Rattle.protocol.specs.World.{WorldState, IsReached}

abbrev pub is_from_client : ℕ → Node → Bool
is_from_client client (node.Client c) = c.0 == client
is_from_client client other = false

-- whether a message asks the master or a server, or pushes data, under this number
abbrev pub is_request : ℕ → Body → Bool
is_request number (body.Ask n file wanted deadline lost) = n == number
is_request number (body.Read n handle version offset count) = n == number
is_request number (body.Len n handle version) = n == number
is_request number (body.Push id bytes rest) = id.seq == number
is_request number other = false

-- whether a message asks a primary to place the data of this number
abbrev pub is_mutate : ℕ → Body → Bool
is_mutate number (body.Mutate id handle version target deadline) = id.seq == number
is_mutate number other = false

-- how many asks, readings and pushes of its own a client sent under a number
abbrev pub requests_under : ℕ → ℕ → List Message → ℕ
requests_under client number sent = count_by (λ m. is_from_client client m.sender && is_request number m.body) sent

-- how often a client asked a primary to place the data of a number
abbrev pub mutates_under : ℕ → ℕ → List Message → ℕ
mutates_under client number sent = count_by (λ m. is_from_client client m.sender && is_mutate number m.body) sent

-- A client's asks, readings and pushes have one number each, and the data of a number are to be placed by one Mutate (section 3.1).
abbrev pub RequestsAreNumberedOnce : Type 0
RequestsAreNumberedOnce =
    (config : Config) (servers clients : ℕ) (w : WorldState) → IsReached config servers clients w
    → (client number : ℕ) → (requests_under client number w.sent ≤ 1) × (mutates_under client number w.sent ≤ 1)

-- what a client sends: its data are its own, and its number is one that it used
abbrev pub IsRequestOf : ClientState → Body → Type 0
IsRequestOf s (body.Ask number file wanted deadline lost) = number ≤ s.number
IsRequestOf s (body.Read number handle version offset count) = number ≤ s.number
IsRequestOf s (body.Len number handle version) = number ≤ s.number
IsRequestOf s (body.Push id bytes rest) = (id.client.0 ≡ s.id) × (id.seq ≤ s.number)
IsRequestOf s (body.Mutate id handle version target deadline) = (id.client.0 ≡ s.id) × (id.seq ≤ s.number)
IsRequestOf s (body.Name number deadline asked) = number ≤ s.call_count
IsRequestOf s (body.Look number asked) = number ≤ s.call_count
IsRequestOf s other = ⊥

-- What a client that is up has sent are requests, each under a number that it has used (section 3.1).
abbrev pub RequestsCarryUsedNumbers : Type 0
RequestsCarryUsedNumbers =
    (config : Config) (servers clients : ℕ) (w : WorldState) → IsReached config servers clients w
    → (index : ℕ) (s : ClientState) → element_at w.clients index ≡ Some s → IsTrue s.up
    → (place : ℕ) (m : Message) → element_at w.sent place ≡ Some m → m.sender ≡ the_client (suc index) → IsRequestOf s m.body

-- the number of the data for which a stage waits
abbrev pub data_number : Stage → Option ℕ
data_number (SentData chunk primary number) = Some number
data_number other = None

abbrev pub waited_data : Option CurrentCall → Option ℕ
waited_data None = None
waited_data (Some c) = data_number c.stage
