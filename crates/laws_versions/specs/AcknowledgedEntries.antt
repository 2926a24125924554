-- Laws of every lawful list of events on what servers acknowledged and what became settled, that public functions of this crate state.
use Rattle.std.specs.Prelude.{◌≡◌, ◌⊎◌, ◌≤◌, ℕ, suc, List, Some, IsTrue}
use Rattle.gfs_types.specs.declared.config.Config.{Config}
use Rattle.messages.specs.declared.message.Message.{Message}
use Rattle.messages.specs.declared.message.Body.TheVariants as body
use Rattle.replica_store.specs.Replicas.{Replica, replica_of}
use Rattle.protocol.specs.Tables.{element_at}
use Rattle.protocol.specs.Sending.{handle_of, version_of, serial_of, the_server}
use Rattle.protocol.specs.Choice.{Choice}
use Rattle.protocol.specs.Observer.{Placed, order_of}
use Rattle.protocol.specs.StoredBytes.{stored_bytes}
use Rattle.protocol.specs.Server.{ServerState}
use Rattle.protocol.specs.ServerStep.{found_disk}
use Rattle.protocol.specs.World.{WorldState, IsReached, is_kept, happens}
use Rattle.laws_versions.specs.ClonedVersions.{IsVersionOver}
use Rattle.laws_versions.specs.ReplicaImages.{marked, HasEntry, IsImageOf}
use Rattle.std.specs.FinMap as table
use Rattle.primary_order.specs.SerialOrder.{SerialOrder}
use Rattle.messages.specs.declared.event.Event.{Event}
use Rattle.protocol.specs.declared.seen.Seen.TheVariants.{BecameSettled}
use Rattle.laws_base.specs.Successes.{IsShownNow}

-- among these entries is each one of which this server acknowledged the serial under this version
abbrev pub HasAcknowledged : List Message → (server handle version : ℕ) → List Placed → Type 0
HasAcknowledged sent server handle version ps =
    (place : ℕ) (m : Message) → element_at sent place ≡ Some m → m.sender ≡ the_server server → (serial : ℕ) → m.body ≡ body.Acked (handle_of handle) (version_of version) (serial_of serial)
    → 1 ≤ serial → HasEntry ps version serial

-- Where clocks and disks are kept, a replica has applied each entry under its version that its server ever acknowledged, or the version is over: on the disk, and on what a restart finds there (sections 3.1 and 4.3).
abbrev pub AcknowledgedEntriesAreApplied : Type 0
AcknowledgedEntriesAreApplied =
    (config : Config) (servers clients : ℕ) (w : WorldState) → IsReached config servers clients w → IsTrue (is_kept w)
    → (index : ℕ) (s : ServerState) → element_at w.servers index ≡ Some s → (choice : Choice) (handle : ℕ) (r : Replica) → replica_of (found_disk s choice) handle ≡ Some r
    → IsVersionOver w handle r.version
    ⊎ ((g : IsImageOf (order_of w.observer handle) r.version r.serial (stored_bytes w.observer index handle (found_disk s choice) r)) × HasAcknowledged w.sent (suc index) handle r.version (marked g.marks (order_of w.observer handle)))

-- each entry of this round of the order is among these entries
abbrev pub HasRound : (order : List Placed) (round : ℕ) → List Placed → Type 0
HasRound order round ps = (place : ℕ) (p : Placed) → element_at order place ≡ Some p → p.entry.round ≡ round → HasEntry ps round p.serial

-- Where clocks and disks are kept, a server that holds a lease of a chunk has a replica of just that version, which has applied each entry of the lease's round, or the version is over (sections 3.1 and 3.3).
abbrev pub PrimariesHaveTheirRound : Type 0
PrimariesHaveTheirRound =
    (config : Config) (servers clients : ℕ) (w : WorldState) → IsReached config servers clients w → IsTrue (is_kept w)
    → (index : ℕ) (s : ServerState) → element_at w.servers index ≡ Some s → (handle : ℕ) (p : SerialOrder) → table.get s.leases handle ≡ Some p
    → (r : Replica) × (replica_of s.disk handle ≡ Some r) × (r.version ≡ p.held.version)
    × (IsVersionOver w handle r.version
    ⊎ ((g : IsImageOf (order_of w.observer handle) r.version r.serial (stored_bytes w.observer index handle s.disk r)) × HasRound (order_of w.observer handle) r.version (marked g.marks (order_of w.observer handle))))

-- In this world each replica of this version of the chunk has applied the entry of this serial: on the disk of a server, and as a restart finds it, however the change under way is decided.
abbrev pub IsAtAllMembers : WorldState → (handle version serial : ℕ) → Type 0
IsAtAllMembers w handle version serial =
    (index : ℕ) (s : ServerState) → element_at w.servers index ≡ Some s → (choice : Choice) (r : Replica) → replica_of (found_disk s choice) handle ≡ Some r → r.version ≡ version
    → (g : IsImageOf (order_of w.observer handle) r.version r.serial (stored_bytes w.observer index handle (found_disk s choice) r)) × HasEntry (marked g.marks (order_of w.observer handle)) version serial

-- Where clocks and disks are kept: as an entry becomes settled, every replica of its round has applied it (sections 2.7.1 and 3.1).
abbrev pub SettledEntriesAreAtAllMembers : Type 0
SettledEntriesAreAtAllMembers =
    (config : Config) (servers clients : ℕ) (w : WorldState) → IsReached config servers clients w → (e : Event) (choice : Choice) → IsTrue (is_kept (happens w e choice).world)
    → (handle version serial : ℕ) → IsShownNow w (happens w e choice) (BecameSettled (handle_of handle) (version_of version) (serial_of serial)) → IsAtAllMembers (happens w e choice).world handle version serial
