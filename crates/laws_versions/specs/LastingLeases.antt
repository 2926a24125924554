-- Laws of every lawful list of events on chunks of which a lease is not over, that public functions of this crate state.
use Rattle.std.specs.Prelude.{◌≡◌, ◌≤◌, ◌<◌, ℕ, suc, List, Some, IsTrue}
use Rattle.std.specs.FinMap as table
use Rattle.gfs_types.specs.declared.config.Config.{Config}
use Rattle.gfs_types.specs.declared.ids.Moment.{Moment}
use Rattle.gfs_types.specs.declared.ids.OrderNo.{OrderNo}
use Rattle.messages.specs.declared.message.Message.{Message}
use Rattle.primary_order.specs.SerialOrder.{SerialOrder}
use Rattle.replica_store.specs.Replicas.{Replica, replica_of}
use Rattle.protocol.specs.Tables.{element_at, has_number}
use Rattle.protocol.specs.Sending.{handle_of, version_of}
use Rattle.protocol.specs.Choice.{Choice}
use Rattle.protocol.specs.Observer.{Placed, order_of}
use Rattle.protocol.specs.Server.{ServerState}
use Rattle.protocol.specs.ServerStep.{found_disk}
use Rattle.protocol.specs.World.{WorldState, IsReached, is_kept}
use Rattle.laws_base.specs.Given.{version_given}
use Rattle.laws_base.specs.Versions.{IsLeaseOver}
use Rattle.laws_base.specs.Laws.{IsGrantBody}

-- Nothing of the chunk is of a version after this one: no entry of its order, and no version that an order gives a server. So no replica is, on a disk or as a restart finds it; and each of this version stands at one of these members.
pub record IsLastVersion (w : WorldState) (handle version : ℕ) (members : List ℕ) : Type 0 where
  pub entries : (place : ℕ) (p : Placed) → element_at (order_of w.observer handle) place ≡ Some p → p.entry.round ≤ version
  pub orders : (place : ℕ) (m : Message) → element_at w.sent place ≡ Some m → (given : ℕ) → version_given m.body ≡ Some (handle, given) → given ≤ version
  pub replicas : (index : ℕ) (s : ServerState) → element_at w.servers index ≡ Some s → (choice : Choice) (r : Replica) → replica_of (found_disk s choice) handle ≡ Some r
      → (r.version ≤ version) × (r.version ≡ version → IsTrue (has_number members (suc index)))

-- Where clocks and disks are kept, so it is of the version and the members of each Grant that was sent, until its lease is over (section 3.1).
abbrev pub LeasesThatAreNotOverAreTheLast : Type 0
LeasesThatAreNotOverAreTheLast =
    (config : Config) (servers clients : ℕ) (w : WorldState) → IsReached config servers clients w → IsTrue (is_kept w)
    → (handle version place : ℕ) (grant : Message) (order : OrderNo) (end_moment : Moment) (members : List ℕ)
    → element_at w.sent place ≡ Some grant → IsGrantBody order (handle_of handle) (version_of version) end_moment members grant.body
    → (IsLeaseOver w handle version → ⊥) → IsLastVersion w handle version members

-- Where clocks and disks are kept, a server that holds a lease which lasts has a replica of its version, whose last serial is the last one that was given under the lease (section 3.1).
abbrev pub PrimariesHaveTheirSerial : Type 0
PrimariesHaveTheirSerial =
    (config : Config) (servers clients : ℕ) (w : WorldState) → IsReached config servers clients w → IsTrue (is_kept w) → (index : ℕ) (s : ServerState) → element_at w.servers index ≡ Some s
    → (handle : ℕ) (p : SerialOrder) → table.get s.leases handle ≡ Some p → w.observer.greatest < p.held.until
    → (r : Replica) × (replica_of s.disk handle ≡ Some r) × (r.version ≡ p.held.version) × (r.serial ≡ p.serial)
