-- Laws of every lawful list of events on what the replica of a primary has, that public functions of this crate state.
use Rattle.std.specs.Prelude.{◌≡◌, ℕ, ◌≤◌, Some, IsTrue}
use Rattle.std.specs.FinMap as table
use Rattle.gfs_types.specs.declared.config.Config.{Config}
use Rattle.gfs_types.specs.declared.ids.DataId.{DataId}
use Rattle.gfs_types.specs.declared.ids.Handle.{Handle}
use Rattle.gfs_types.specs.declared.ids.Version.{Version}
use Rattle.gfs_types.specs.declared.ids.Serial.{Serial}
use Rattle.gfs_types.specs.declared.mutation.Mutation.{Mutation}
use Rattle.gfs_types.specs.declared.mutation.Mutation.TheVariants.{Write, Append, Pad}
use Rattle.gfs_types.specs.Mutations.{end_of}
use Rattle.messages.specs.declared.event.NodeInput.{NodeInput}
use Rattle.primary_order.specs.SerialOrder.{SerialOrder}
use Rattle.replica_store.specs.Replicas.{Replica, replica_of}
use Rattle.protocol.specs.Tables.{element_at}
use Rattle.protocol.specs.Choice.{Choice}
use Rattle.protocol.specs.declared.seen.Seen.TheVariants.{Numbered}
use Rattle.protocol.specs.Observer.{Placed, order_of}
use Rattle.protocol.specs.Server.{ServerState}
use Rattle.protocol.specs.ServerStep.{server_step}
use Rattle.protocol.specs.World.{WorldState, IsReached}
use Rattle.protocol_invariant.specs.Versions.{AreRising}

-- While a lease is held, each entry of its round ends within the bytes of the server's replica, which is of the lease's version (section 3.1).
abbrev pub HeldRoundsAreApplied : Type 0
HeldRoundsAreApplied =
    (config : Config) (servers clients : ℕ) (w : WorldState) → IsReached config servers clients w → (index : ℕ) (s : ServerState) → element_at w.servers index ≡ Some s
    → (handle : ℕ) (p : SerialOrder) → table.get s.leases handle ≡ Some p
    → (place : ℕ) (e : Placed) → element_at (order_of w.observer handle) place ≡ Some e → e.entry.round ≡ p.held.version
    → (r : Replica) × (replica_of s.disk handle ≡ Some r) × (r.version ≡ p.held.version) × (end_of e.entry.mutation ≤ r.count)

-- a record or a pad begins at this place or behind it
abbrev pub ComesBehind : ℕ → Mutation → Type 0
ComesBehind place (Write offset bytes) = Unit {0}
ComesBehind place (Append offset bytes) = place ≤ offset
ComesBehind place (Pad offset end) = place ≤ offset

-- As a server numbers a record or a pad, it begins past each entry of its round (section 3.3).
abbrev pub RecordsComeBehindTheirRound : Type 0
RecordsComeBehindTheirRound =
    (config : Config) (servers clients : ℕ) (w : WorldState) → IsReached config servers clients w → (index : ℕ) (s : ServerState) → element_at w.servers index ≡ Some s
    → (moment : ℕ) (i : NodeInput) (choice : Choice) (shown : ℕ) (handle : Handle) (version : Version) (serial : Serial) (id : DataId) (m : Mutation)
    → element_at (server_step s moment i choice).seen shown ≡ Some (Numbered handle version serial id m)
    → (place : ℕ) (e : Placed) → element_at (order_of w.observer handle.0) place ≡ Some e → e.entry.round ≡ version.0
    → ComesBehind (end_of e.entry.mutation) m

-- Where clocks are kept, rounds never fall in a chunk's order, and serials rise within a round (section 3.1).
abbrev pub OrdersRise : Type 0
OrdersRise =
    (config : Config) (servers clients : ℕ) (w : WorldState) → IsReached config servers clients w → IsTrue w.observer.are_clocks_kept
    → (handle : ℕ) → AreRising (order_of w.observer handle)
