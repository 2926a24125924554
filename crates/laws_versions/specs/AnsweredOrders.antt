-- Laws of every lawful list of events on what servers answer to orders and report of leases, that public functions of this crate state.
use Rattle.std.specs.Prelude.{◌≡◌, ℕ, suc, ◌<◌, false, List, Some, IsTrue}
use Rattle.gfs_types.specs.declared.config.Config.{Config}
use Rattle.gfs_types.specs.declared.ids.Node.{Node}
use Rattle.gfs_types.specs.declared.ids.Handle.{Handle}
use Rattle.gfs_types.specs.declared.ids.Version.{Version}
use Rattle.gfs_types.specs.declared.ids.OrderNo.{OrderNo}
use Rattle.messages.specs.declared.message.Message.{Message}
use Rattle.messages.specs.declared.message.Body.TheVariants as body
use Rattle.messages.specs.declared.message.ReplicaLine.{ReplicaLine}
use Rattle.messages.specs.declared.message.LeaseLine.{LeaseLine}
use Rattle.protocol.specs.Tables.{element_at}
use Rattle.protocol.specs.Sending.{the_server, order_number}
use Rattle.replica_store.specs.Replicas.{is_new_order}
use Rattle.protocol.specs.Server.{ServerState}
use Rattle.protocol.specs.World.{WorldState, IsReached}
use Rattle.laws_base.specs.Laws.{is_grant, IsSameOrLater}
use Rattle.laws_base.specs.Given.{version_given}

-- a server refuses an order, and each of the same or a lower number
abbrev pub IsRefusedBy : ServerState → OrderNo → Type 0
IsRefusedBy s order = (other : OrderNo) → IsSameOrLater other.epoch other.count order.epoch order.count → is_new_order s.disk other.epoch other.count ≡ false

-- Before this place an order was sent to a server that gives it this version of the chunk, and the server refuses it now.
pub record IsOrderTaken (w : WorldState) (end index handle version : ℕ) : Type 0 where
  pub place : ℕ
  pub before : place < end
  pub message : Message
  pub order : OrderNo
  pub at : element_at w.sent place ≡ Some message
  pub receiver : message.receiver ≡ the_server (suc index)
  pub number : order_number message.body ≡ Some order
  pub given : version_given message.body ≡ Some (handle, version)
  pub refused : (s : ServerState) → element_at w.servers index ≡ Some s → IsRefusedBy s order

-- A Recorded answers an order that gave its sender that version, and that it refuses from then on (sections 3.1 and 4.5).
abbrev pub RecordedOrdersAreRefused : Type 0
RecordedOrdersAreRefused =
    (config : Config) (servers clients : ℕ) (w : WorldState) → IsReached config servers clients w
    → (place : ℕ) (m : Message) → element_at w.sent place ≡ Some m → (handle : Handle) (version : Version) → m.body ≡ body.Recorded handle version
    → (index : ℕ) × (m.sender ≡ the_server (suc index)) × IsOrderTaken w place index handle.0 version.0

-- one of the lines is of the lease of this version of the chunk
abbrev pub IsLeaseReported : List LeaseLine → ℕ → ℕ → Type 0
IsLeaseReported lines handle version = (place : ℕ) × (line : LeaseLine) × (element_at lines place ≡ Some line) × (line.handle.0 ≡ handle) × (line.version.0 ≡ version)

-- before this place a Grant of the version was sent to this node
abbrev pub WasGrantedBefore : List Message → ℕ → Node → ℕ → ℕ → Type 0
WasGrantedBefore sent end receiver handle version =
    (place : ℕ) × (place < end) × (grant : Message) × (element_at sent place ≡ Some grant) × (grant.receiver ≡ receiver) × IsTrue (is_grant handle version grant.body)

-- Each lease of which a Report has a line was granted to its sender before (sections 3.1 and 4.5).
abbrev pub ReportedLeasesWereGranted : Type 0
ReportedLeasesWereGranted =
    (config : Config) (servers clients : ℕ) (w : WorldState) → IsReached config servers clients w
    → (place : ℕ) (m : Message) → element_at w.sent place ≡ Some m → (replicas : List ReplicaLine) (leases : List LeaseLine) → m.body ≡ body.Report replicas leases
    → (handle version : ℕ) → IsLeaseReported leases handle version → WasGrantedBefore w.sent place m.sender handle version
