-- Laws of every lawful list of events on what servers say of mutations, that public functions of this crate state.
use Rattle.std.specs.Prelude.{◌≡◌, ℕ, List, Some}
use Rattle.gfs_types.specs.declared.config.Config.{Config}
use Rattle.gfs_types.specs.declared.ids.DataId.{DataId}
use Rattle.gfs_types.specs.declared.ids.Handle.{Handle}
use Rattle.gfs_types.specs.declared.ids.Version.{Version}
use Rattle.gfs_types.specs.declared.ids.Serial.{Serial}
use Rattle.messages.specs.declared.event.NodeInput.{NodeInput}
use Rattle.messages.specs.declared.message.Body.TheVariants as body
use Rattle.messages.specs.declared.message.Change.{Change}
use Rattle.messages.specs.declared.message.Message.{Message}
use Rattle.replica_store.specs.Replicas.{Replica, replica_of, read_at}
use Rattle.protocol.specs.Tables.{element_at}
use Rattle.protocol.specs.Choice.{Choice}
use Rattle.protocol.specs.Observer.{Placed, order_of}
use Rattle.protocol.specs.Server.{ServerState}
use Rattle.protocol.specs.ServerStep.{server_step}
use Rattle.protocol.specs.ServerWrites.{change_of}
use Rattle.protocol.specs.World.{WorldState, IsReached}

-- an entry of this order has this round and serial, is of these data, and changes this
pub record IsNamedIn (order : List Placed) (version : Version) (serial : Serial) (id : DataId) (c : Change) : Type 0 where
  pub place : ℕ
  pub p : Placed
  pub at : element_at order place ≡ Some p
  pub round_is : p.entry.round ≡ version.0
  pub serial_is : p.serial ≡ serial.0
  pub client_is : p.entry.call.client ≡ id.client.0
  pub seq_is : p.seq ≡ id.seq
  pub change_is : change_of p.entry.mutation ≡ c

-- Each Forward that was sent names an entry of its chunk's order (section 3.3).
abbrev pub ForwardsNameEntries : Type 0
ForwardsNameEntries =
    (config : Config) (servers clients : ℕ) (w : WorldState) → IsReached config servers clients w → (place : ℕ) (m : Message) → element_at w.sent place ≡ Some m
    → (handle : Handle) (version : Version) (serial : Serial) (id : DataId) (chunk : ℕ) (c : Change) → m.body ≡ body.Forward handle version serial id chunk c
    → IsNamedIn (order_of w.observer handle.0) version serial id c

-- A server that sends an Acked has after its step a replica of that version with that serial (section 3.3).
abbrev pub AckedSerialsAreApplied : Type 0
AckedSerialsAreApplied =
    (s : ServerState) (moment : ℕ) (i : NodeInput) (choice : Choice) (place : ℕ) (m : Message) → element_at (server_step s moment i choice).out.sent place ≡ Some m
    → (handle : Handle) (version : Version) (serial : Serial) → m.body ≡ body.Acked handle version serial
    → (r : Replica) × (replica_of (server_step s moment i choice).state.disk handle.0 ≡ Some r) × (r.version ≡ version.0) × (r.serial ≡ serial.0)

-- An Image has what its server's replica has: its version, its serial, and its bytes as they are read (section 4.3).
abbrev pub ImagesAreOfReplicas : Type 0
ImagesAreOfReplicas =
    (s : ServerState) (moment : ℕ) (i : NodeInput) (choice : Choice) (place : ℕ) (m : Message) → element_at (server_step s moment i choice).out.sent place ≡ Some m
    → (handle : Handle) (version : Version) (serial : Serial) (bytes : List ℕ) → m.body ≡ body.Image handle version serial bytes
    → (r : Replica) × (replica_of s.disk handle.0 ≡ Some r) × (r.version ≡ version.0) × (r.serial ≡ serial.0) × (read_at s.disk handle.0 0 r.count ≡ Some bytes)
