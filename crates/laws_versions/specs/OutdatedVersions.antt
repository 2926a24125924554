-- Laws of versions below the granted one of their chunk, that public functions of this crate state.
use Rattle.std.specs.Prelude.{◌≡◌, ℕ, ◌<◌, List, Option, Some, None, IsTrue}
use Rattle.gfs_types.specs.declared.config.Config.{Config}
use Rattle.gfs_types.specs.declared.ids.Node.{Node}
use Rattle.messages.specs.declared.event.Event.{Event}
use Rattle.messages.specs.declared.event.NodeInput.{NodeInput}
use Rattle.messages.specs.declared.event.NodeInput.TheVariants as input
use Rattle.messages.specs.declared.message.Message.{Message}
use Rattle.messages.specs.declared.message.Body.{Body}
use Rattle.messages.specs.declared.message.Body.TheVariants as body
use Rattle.messages.specs.declared.message.ReplicaLine.{ReplicaLine}
use Rattle.messages.specs.declared.message.LeaseLine.{LeaseLine}
use Rattle.chunk_table.specs.ChunkTable.{ChunkRow, chunk_of}
use Rattle.protocol.specs.Choice.{Choice}
use Rattle.protocol.specs.Tables.{element_at}
use Rattle.protocol.specs.Sending.{the_server, server_number}
use Rattle.protocol.specs.Logged.{Logged, replayed}
use Rattle.protocol.specs.Master.{MasterState}
use Rattle.protocol.specs.MasterStep.{master_step}
use Rattle.protocol.specs.World.{WorldState, after_events, IsReached}
use Rattle.laws_versions.specs.ToldVersions.{IsReported}

-- the chunk and the version that a message has a server drop
abbrev pub version_dropped : Body → Option (ℕ × ℕ)
version_dropped (body.Drop order handle version) = Some (handle.0, version.0)
version_dropped other = None

-- A server reports this version of the chunk in the message that is taken, and it is useless: the chunk is not logged, or has a newer version granted.
pub record IsUselessReplica (l : Logged) (i : NodeInput) (server : Node) (handle version : ℕ) : Type 0 where
  pub report : Message
  pub replicas : List ReplicaLine
  pub leases : List LeaseLine
  pub taken : i ≡ input.Deliver report
  pub is_report : report.body ≡ body.Report replicas leases
  pub sender : server ≡ the_server (server_number report.sender)
  pub reported : IsReported replicas handle version
  pub useless : (row : ChunkRow) → chunk_of l.table handle ≡ Some row → version < row.granted

-- Each Drop that a step of the master sends is of such a replica of its receiver (section 4.5).
abbrev pub DropsAreOfUselessReplicas : Type 0
DropsAreOfUselessReplicas =
    (m : MasterState) (moment : ℕ) (i : NodeInput) (choice : Choice) (place : ℕ) (drop : Message) → element_at (master_step m moment i choice).out.sent place ≡ Some drop
    → (handle version : ℕ) → version_dropped drop.body ≡ Some (handle, version) → IsUselessReplica m.logged i drop.receiver handle version

-- The handle was used, and its chunk, if it is there, has a newer version granted.
pub record IsNeverCurrent (l : Logged) (handle version : ℕ) : Type 0 where
  pub used : handle < l.next_handle
  pub older : (row : ChunkRow) → chunk_of l.table handle ≡ Some row → version < row.granted

-- A version that is so at a master that is up stays so in all that follows: at a master that is up, and in its log (section 3.1).
abbrev pub OutdatedVersionsStayOutdated : Type 0
OutdatedVersionsStayOutdated =
    (config : Config) (servers clients : ℕ) (w : WorldState) → IsReached config servers clients w → IsTrue w.master.up
    → (handle version : ℕ) → IsNeverCurrent w.master.logged handle version → (steps : List (Event × Choice))
    → (let v : WorldState = after_events w steps in IsNeverCurrent (replayed v.master.disk) handle version × (IsTrue v.master.up → IsNeverCurrent v.master.logged handle version))
