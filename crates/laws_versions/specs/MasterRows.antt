-- Laws of every lawful list of events on what the rows of the master say beside its orders and Grants, that public functions of this crate state.
use Rattle.std.specs.Prelude.{◌≡◌, ◌⊎◌, ℕ, ◌≤◌, ◌<◌, List, Some, IsTrue}
use Rattle.std.specs.FinMap as table
use Rattle.gfs_types.specs.declared.config.Config.{Config}
use Rattle.gfs_types.specs.declared.ids.Handle.{Handle}
use Rattle.gfs_types.specs.declared.ids.Moment.{Moment}
use Rattle.gfs_types.specs.declared.ids.OrderNo.{OrderNo}
use Rattle.gfs_types.specs.declared.ids.Version.{Version}
use Rattle.messages.specs.declared.event.Event.{Event}
use Rattle.messages.specs.declared.message.Message.{Message}
use Rattle.primary_order.specs.SerialOrder.{SerialOrder}
use Rattle.chunk_table.specs.ChunkTable.{ChunkRow, chunk_of}
use Rattle.protocol.specs.Tables.{element_at, has_number}
use Rattle.protocol.specs.Sending.{the_server, handle_of, order_number}
use Rattle.protocol.specs.Choice.{Choice}
use Rattle.protocol.specs.Logged.{Copy, replayed}
use Rattle.protocol.specs.Master.{MasterState, VersionAttempt}
use Rattle.protocol.specs.Server.{ServerState}
use Rattle.protocol.specs.World.{WorldState, after_events, IsReached}
use Rattle.laws_base.specs.Laws.{IsGrantBody, IsSameOrLater}
use Rattle.laws_base.specs.Given.{version_given}
use Rattle.laws_versions.specs.ClonedVersions.{version_copied}
use Rattle.laws_versions.specs.MasterKnowledge.{IsRowOf}
use Rattle.laws_versions.specs.EmptyGrants.{IsGrantUsed}

-- the handle was used, in the log and at a master that is up
abbrev pub WasUsed : MasterState → ℕ → Type 0
WasUsed m handle = (handle < (replayed m.disk).next_handle) × (IsTrue m.up → handle < m.logged.next_handle)

-- The handle of each row was used (section 3.1).
abbrev pub RowsAreOfUsedHandles : Type 0
RowsAreOfUsedHandles =
    (config : Config) (servers clients : ℕ) (w : WorldState) → IsReached config servers clients w
    → (handle : ℕ) (row : ChunkRow) → IsRowOf w.master handle row → WasUsed w.master handle

-- So was that of each chunk of which an order gives a version, or of which one is ordered to be cloned, asked for or sent as an image (sections 3.1 and 4.3).
abbrev pub OrdersAreOfUsedHandles : Type 0
OrdersAreOfUsedHandles =
    (config : Config) (servers clients : ℕ) (w : WorldState) → IsReached config servers clients w
    → (place : ℕ) (m : Message) → element_at w.sent place ≡ Some m → (handle version : ℕ) → (version_given m.body ≡ Some (handle, version)) ⊎ (version_copied m.body ≡ Some (handle, version)) → WasUsed w.master handle

-- No Grant is of a version above the granted one of its chunk's row, and the one of the granted version went to the row's primary (section 3.1).
abbrev pub GrantsAgreeWithRows : Type 0
GrantsAgreeWithRows =
    (config : Config) (servers clients : ℕ) (w : WorldState) → IsReached config servers clients w
    → (handle : ℕ) (row : ChunkRow) → IsRowOf w.master handle row
    → (place : ℕ) (grant : Message) (order : OrderNo) (version : Version) (end_moment : Moment) (members : List ℕ) → element_at w.sent place ≡ Some grant → IsGrantBody order (handle_of handle) version end_moment members grant.body
    → (version.0 ≤ row.granted) × (version.0 ≡ row.granted → grant.receiver ≡ the_server row.primary)

-- At a master that is up the version of an attempt is the last one that was issued of its chunk, whose handle was used (section 3.1).
abbrev pub AttemptsAreOfTheLastVersion : Type 0
AttemptsAreOfTheLastVersion =
    (config : Config) (servers clients : ℕ) (w : WorldState) → IsReached config servers clients w → IsTrue w.master.up
    → (handle : ℕ) (a : VersionAttempt) → table.get w.master.attempts handle ≡ Some a
    → (handle < w.master.logged.next_handle) × ((row : ChunkRow) → chunk_of w.master.logged.table handle ≡ Some row → a.version ≡ row.issued)

-- At a master that is up the last lease has ended of each chunk of which a version is attempted, and of each copy under way (sections 3.1 and 3.4).
abbrev pub AttemptedLeasesHaveEnded : Type 0
AttemptedLeasesHaveEnded =
    (config : Config) (servers clients : ℕ) (w : WorldState) → IsReached config servers clients w → IsTrue w.master.up
    → (handle : ℕ) (row : ChunkRow) → chunk_of w.master.logged.table handle ≡ Some row
    → ((a : VersionAttempt) → table.get w.master.attempts handle ≡ Some a → row.lease_end ≤ w.master.now) × ((c : Copy) → table.get w.master.logged.copies handle ≡ Some c → row.lease_end ≤ w.master.now)

-- Where clocks are kept, so has that of each chunk of which a copy is under way (section 3.4).
abbrev pub CopiedLeasesHaveEnded : Type 0
CopiedLeasesHaveEnded =
    (config : Config) (servers clients : ℕ) (w : WorldState) → IsReached config servers clients w → IsTrue w.observer.are_clocks_kept → IsTrue w.master.up
    → (copy : ℕ) (c : Copy) → table.get w.master.logged.copies copy ≡ Some c → (row : ChunkRow) → chunk_of w.master.logged.table c.source ≡ Some row → row.lease_end ≤ w.master.now

-- The number of each order was used: it is of an epoch that has begun, and at a master that is up at most that of its last order (section 4.5).
abbrev pub OrderNumbersWereUsed : Type 0
OrderNumbersWereUsed =
    (config : Config) (servers clients : ℕ) (w : WorldState) → IsReached config servers clients w
    → (place : ℕ) (m : Message) (order : OrderNo) → element_at w.sent place ≡ Some m → order_number m.body ≡ Some order
    → (order.epoch ≤ (replayed w.master.disk).epoch) × (IsTrue w.master.up → IsSameOrLater order.epoch order.count w.master.logged.epoch w.master.order_count)

-- Each Grant goes to one of its members (section 3.1).
abbrev pub GrantsGoToMembers : Type 0
GrantsGoToMembers =
    (config : Config) (servers clients : ℕ) (w : WorldState) → IsReached config servers clients w
    → (place : ℕ) (grant : Message) (order : OrderNo) (handle : Handle) (version : Version) (end_moment : Moment) (members : List ℕ) → element_at w.sent place ≡ Some grant → IsGrantBody order handle version end_moment members grant.body
    → (server : ℕ) → grant.receiver ≡ the_server server → IsTrue (has_number members server)

-- The Grant of each lease that a server holds is used up, in all that follows (section 3.1).
abbrev pub HeldLeasesHaveUsedGrants : Type 0
HeldLeasesHaveUsedGrants =
    (config : Config) (servers clients : ℕ) (w : WorldState) → IsReached config servers clients w
    → (index : ℕ) (s : ServerState) → element_at w.servers index ≡ Some s → (handle : ℕ) (p : SerialOrder) → table.get s.leases handle ≡ Some p
    → (steps : List (Event × Choice)) → IsGrantUsed (after_events w steps) index handle p.held.version
