-- Laws of every lawful list of events on the orders that servers have taken, that public functions of this crate state.
use Rattle.std.specs.Prelude.{◌≡◌, ◌⊎◌, ℕ, suc, List, Option, Some, IsTrue}
use Rattle.std.specs.FinMap as table
use Rattle.gfs_types.specs.declared.config.Config.{Config}
use Rattle.gfs_types.specs.declared.ids.OrderNo.{OrderNo}
use Rattle.messages.specs.declared.message.Message.{Message}
use Rattle.messages.specs.declared.message.Body.{Body}
use Rattle.protocol.specs.Tables.{element_at}
use Rattle.protocol.specs.Sending.{the_server, order_number}
use Rattle.replica_store.specs.Replicas.{Replica, replica_of}
use Rattle.protocol.specs.Server.{ServerState}
use Rattle.protocol.specs.World.{WorldState, IsReached}
use Rattle.laws_base.specs.Laws.{IsSameOrLater, tells_version}
use Rattle.laws_base.specs.Given.{version_given}
use Rattle.laws_versions.specs.HeldVersions.{version_cloned}

-- One of the messages is an order of this kind to the server, of this version of the chunk. The last order that the server took has this number or a later one, so it refuses this order.
pub record IsTaken (kind : Body → Option (ℕ × ℕ)) (sent : List Message) (server epoch count handle version : ℕ) : Type 0 where
  pub place : ℕ
  pub message : Message
  pub order : OrderNo
  pub at : element_at sent place ≡ Some message
  pub receiver : message.receiver ≡ the_server server
  pub number : order_number message.body ≡ Some order
  pub is : kind message.body ≡ Some (handle, version)
  pub taken : IsSameOrLater order.epoch order.count epoch count

-- an order that gives the server the version, or has it clone the version, was taken
abbrev pub WasTaken : List Message → ℕ → ServerState → ℕ → ℕ → Type 0
WasTaken sent server s handle version = IsTaken version_given sent server s.disk.epoch s.disk.count handle version ⊎ IsTaken version_cloned sent server s.disk.epoch s.disk.count handle version

-- Each replica on a server's disk, also of one that is down, has the version of an order that the server took (sections 3.1, 4.3 and 4.5).
abbrev pub ReplicasAreOfTakenOrders : Type 0
ReplicasAreOfTakenOrders =
    (config : Config) (servers clients : ℕ) (w : WorldState) → IsReached config servers clients w
    → (index : ℕ) (s : ServerState) → element_at w.servers index ≡ Some s → (handle : ℕ) (r : Replica) → replica_of s.disk handle ≡ Some r → WasTaken w.sent (suc index) s handle r.version

-- Each clone for which a server waits was ordered by a Clone that the server took (section 4.3).
abbrev pub PendingClonesAreOfTakenOrders : Type 0
PendingClonesAreOfTakenOrders =
    (config : Config) (servers clients : ℕ) (w : WorldState) → IsReached config servers clients w
    → (index : ℕ) (s : ServerState) → element_at w.servers index ≡ Some s → (handle version : ℕ) → table.get s.clones handle ≡ Some version
    → IsTaken version_cloned w.sent (suc index) s.disk.epoch s.disk.count handle version

-- Each version that a server told the master, by a Recorded or a line of a Report, is of an order that the server took (sections 3.1 and 4.5).
abbrev pub ToldVersionsAreOfTakenOrders : Type 0
ToldVersionsAreOfTakenOrders =
    (config : Config) (servers clients : ℕ) (w : WorldState) → IsReached config servers clients w
    → (place : ℕ) (m : Message) → element_at w.sent place ≡ Some m → (handle version : ℕ) → IsTrue (tells_version handle version m.body)
    → (index : ℕ) (s : ServerState) → m.sender ≡ the_server (suc index) → element_at w.servers index ≡ Some s → WasTaken w.sent (suc index) s handle version
