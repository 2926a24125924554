-- What is said of each entry of a table, and of each node of a cell: in forms that can be computed.
use Rattle.std.specs.Prelude.{◌≡◌, ◌<◌, ℕ, suc, ◌-◌, List, Some, IfSome}
use Rattle.std.specs.FinMap as table
use Rattle.protocol.specs.Tables.{Table, element_at}
use Rattle.replica_store.specs.Replicas.{Replica, replica_of}
use Rattle.protocol.specs.Server.{ServerState}
use Rattle.protocol.specs.Client.{ClientState}
use Rattle.protocol.specs.World.{WorldState}

-- of each entry of a table
abbrev pub EachEntry : {X : Type 0} → Table X → (ℕ → X → Type 0) → Type 0
EachEntry {X = X} t P = (key : ℕ) (value : X) → table.get t key ≡ Some value → P key value

-- of each element of a list, with its place
abbrev pub EachPlace : {X : Type 0} → List X → (ℕ → X → Type 0) → Type 0
EachPlace {X = X} xs P = (place : ℕ) (x : X) → element_at xs place ≡ Some x → P place x

-- of each number below a count
abbrev pub EachNumber : ℕ → (ℕ → Type 0) → Type 0
EachNumber count P = (number : ℕ) → number < count → P number

-- of each server, with its number
abbrev pub EachServer : WorldState → (ℕ → ServerState → Type 0) → Type 0
EachServer w P = EachPlace w.servers (λ place s. P (suc place) s)

abbrev pub EachClient : WorldState → (ℕ → ClientState → Type 0) → Type 0
EachClient w P = EachPlace w.clients (λ place c. P (suc place) c)

-- of each replica on a disk, with its server's number and its handle
abbrev pub EachReplica : WorldState → (ℕ → ServerState → ℕ → Replica → Type 0) → Type 0
EachReplica w P = EachServer w (λ server s. EachEntry s.disk.replicas (λ handle r. P server s handle r))

-- of the server with this number, if it is there
abbrev pub AtServer : WorldState → ℕ → (ServerState → Type 0) → Type 0
AtServer w server P = IfSome (element_at w.servers (server - 1)) P

-- of that server's replica of a chunk, where it has one
abbrev pub AtReplica : WorldState → ℕ → ℕ → (Replica → Type 0) → Type 0
AtReplica w server handle P = AtServer w server (λ s. IfSome (replica_of s.disk handle) P)
