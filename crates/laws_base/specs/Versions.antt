-- Laws of versions and leases in every lawful list of events, restarts, losses and repeats included, that public functions of this crate state.
use Rattle.std.specs.Prelude.{◌≡◌, ◌≢◌, ◌⊎◌, ℕ, suc, ◌≤◌, ◌<◌, List, Some, None, IsTrue, IsFalse}
use Rattle.std.specs.FinMap as table
use Rattle.gfs_types.specs.declared.config.Config.{Config}
use Rattle.gfs_types.specs.declared.ids.Moment.{Moment}
use Rattle.gfs_types.specs.declared.ids.Node.{Node}
use Rattle.gfs_types.specs.declared.ids.OrderNo.{OrderNo}
use Rattle.messages.specs.declared.message.Message.{Message}
use Rattle.protocol.specs.Tables.{element_at}
use Rattle.protocol.specs.Sending.{the_server, handle_of, version_of}
use Rattle.chunk_table.specs.ChunkTable.{ChunkRow, chunk_of}
use Rattle.protocol.specs.Logged.{replayed}
use Rattle.replica_store.specs.Replicas.{is_new_order}
use Rattle.primary_order.specs.SerialOrder.{SerialOrder}
use Rattle.protocol.specs.Master.{VersionAttempt}
use Rattle.protocol.specs.Server.{ServerState, primary_of}
use Rattle.protocol.specs.ServerStep.{server_at}
use Rattle.protocol.specs.Observer.{observed_moment}
use Rattle.messages.specs.declared.event.Event.{Event}
use Rattle.protocol.specs.Choice.{Choice}
use Rattle.protocol.specs.World.{WorldState, after_events, IsReached}
use Rattle.laws_base.specs.Laws.{IsGrantBody, grants_of, HoldsLastingLease}

-- the server that this node is refuses the order by its number
abbrev pub IsRefusedBy : List ServerState → Node → OrderNo → Type 0
IsRefusedBy servers node order =
    (index : ℕ) (s : ServerState) → element_at servers index ≡ Some s → node ≡ the_server (suc index) → IsFalse (is_new_order s.disk order.epoch order.count)

-- The lease of a version of a chunk is over: no server holds it so that it lasts, and a Grant of it that was sent has ended, or is refused where it comes.
pub record IsLeaseOver (w : WorldState) (handle version : ℕ) : Type 0 where
  pub held : (index : ℕ) (p : SerialOrder) → HoldsLastingLease w index handle p → p.held.version ≡ version → ⊥
  pub comes : (place : ℕ) (grant : Message) (order : OrderNo) (end_moment : Moment) (members : List ℕ) → element_at w.sent place ≡ Some grant
      → IsGrantBody order (handle_of handle) (version_of version) end_moment members grant.body
      → (end_moment.0 ≤ w.observer.greatest) ⊎ IsRefusedBy w.servers grant.receiver order

-- each lease of a chunk is over
abbrev pub AreLeasesOver : WorldState → ℕ → Type 0
AreLeasesOver w handle = (version : ℕ) → IsLeaseOver w handle version

-- Where clocks are kept, the lease of each version but the granted one is over, and that of the granted one is over where it has ended at the master (section 3.1).
abbrev pub EndedLeasesAreOver : Type 0
EndedLeasesAreOver =
    (config : Config) (servers clients : ℕ) (w : WorldState) → IsReached config servers clients w → IsTrue w.observer.are_clocks_kept → IsTrue w.master.up
    → (handle : ℕ) (row : ChunkRow) → chunk_of w.master.logged.table handle ≡ Some row
    → (version : ℕ) → (version ≡ row.granted → row.lease_end ≤ w.observer.greatest) → IsLeaseOver w handle version

-- So is it in the log of a master, also of one that is down: the lease of each version but the granted one is over (section 3.1).
abbrev pub LeasesInTheLogAreOver : Type 0
LeasesInTheLogAreOver =
    (config : Config) (servers clients : ℕ) (w : WorldState) → IsReached config servers clients w → IsTrue w.observer.are_clocks_kept
    → (handle : ℕ) (row : ChunkRow) → chunk_of (replayed w.master.disk).table handle ≡ Some row → (version : ℕ) → version ≢ row.granted → IsLeaseOver w handle version

-- Where clocks are kept, while a version of a chunk is attempted, it is above the granted one, and all leases of the chunk are over (section 3.1).
abbrev pub AttemptedChunksHaveNoLease : Type 0
AttemptedChunksHaveNoLease =
    (config : Config) (servers clients : ℕ) (w : WorldState) → IsReached config servers clients w → IsTrue w.observer.are_clocks_kept → IsTrue w.master.up
    → (handle : ℕ) (a : VersionAttempt) → table.get w.master.attempts handle ≡ Some a → (row : ChunkRow) → chunk_of w.master.logged.table handle ≡ Some row
    → (row.granted < a.version) × AreLeasesOver w handle

-- A lease that was granted and is over stays over in all that follows, as long as clocks are kept: no server holds it so that it lasts, nor will (section 3.1).
abbrev pub LeasesStayOver : Type 0
LeasesStayOver =
    (config : Config) (servers clients : ℕ) (w : WorldState) → IsReached config servers clients w → (handle version : ℕ) → 1 ≤ grants_of handle version w.sent → IsLeaseOver w handle version
    → (steps : List (Event × Choice)) → IsTrue (after_events w steps).observer.are_clocks_kept → IsLeaseOver (after_events w steps) handle version

-- Under a version whose lease is over no server numbers a mutation: as it begins a step, no lease of it counts for its primary (section 3.1).
abbrev pub OverLeasesNumberNothing : Type 0
OverLeasesNumberNothing =
    (config : Config) (servers clients : ℕ) (w : WorldState) → IsReached config servers clients w → (handle version : ℕ) → IsLeaseOver w handle version
    → (moment : ℕ) → IsTrue (observed_moment w.config.skew_ms w.observer moment).are_clocks_kept
    → (index : ℕ) (s : ServerState) → element_at w.servers index ≡ Some s → primary_of (server_at s moment) handle version ≡ None
