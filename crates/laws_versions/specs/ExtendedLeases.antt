-- Laws of every lawful list of events on Extends, that public functions of this crate state.
use Rattle.std.specs.Prelude.{◌≡◌, ℕ, ◌<◌, List, Option, Some, None}
use Rattle.gfs_types.specs.declared.config.Config.{Config}
use Rattle.gfs_types.specs.declared.ids.Node.{Node}
use Rattle.messages.specs.declared.message.Message.{Message}
use Rattle.messages.specs.declared.message.Body.{Body}
use Rattle.messages.specs.declared.message.Body.TheVariants as body
use Rattle.messages.specs.declared.message.ReplicaLine.{ReplicaLine}
use Rattle.messages.specs.declared.message.LeaseLine.{LeaseLine}
use Rattle.protocol.specs.Tables.{element_at}
use Rattle.protocol.specs.World.{WorldState, IsReached}
use Rattle.laws_versions.specs.AnsweredOrders.{IsLeaseReported, WasGrantedBefore}

-- the chunk and the version of which a message lets the lease last longer
abbrev pub version_extended : Body → Option (ℕ × ℕ)
version_extended (body.Extend handle version end_moment) = Some (handle.0, version.0)
version_extended other = None

-- before this place the node reported a lease of this version of the chunk
pub record WasLeaseReported (sent : List Message) (end : ℕ) (sender : Node) (handle version : ℕ) : Type 0 where
  pub place : ℕ
  pub before : place < end
  pub report : Message
  pub at : element_at sent place ≡ Some report
  pub sender_is : report.sender ≡ sender
  pub replicas : List ReplicaLine
  pub leases : List LeaseLine
  pub is_report : report.body ≡ body.Report replicas leases
  pub reported : IsLeaseReported leases handle version

-- Each Extend answers a Report of its receiver that has a line of the lease (sections 3.1 and 4.5).
abbrev pub ExtendsAnswerReports : Type 0
ExtendsAnswerReports =
    (config : Config) (servers clients : ℕ) (w : WorldState) → IsReached config servers clients w
    → (place : ℕ) (m : Message) → element_at w.sent place ≡ Some m → (handle version : ℕ) → version_extended m.body ≡ Some (handle, version) → WasLeaseReported w.sent place m.receiver handle version

-- Each Extend was sent after the Grant of its version, to the same server (section 3.1).
abbrev pub ExtendsFollowTheirGrants : Type 0
ExtendsFollowTheirGrants =
    (config : Config) (servers clients : ℕ) (w : WorldState) → IsReached config servers clients w
    → (place : ℕ) (m : Message) → element_at w.sent place ≡ Some m → (handle version : ℕ) → version_extended m.body ≡ Some (handle, version) → WasGrantedBefore w.sent place m.receiver handle version
