-- Laws of every lawful list of events, restarts, losses and repeats included, that public functions of this crate state.
use Rattle.std.specs.Prelude.{◌≡◌, ◌⊎◌, ℕ, suc, ◌≤◌, ◌<◌, Bool, false, ◌==◌, ◌&&◌, List, count_by, option_map, Option, Some, None, IsTrue}
use Rattle.std.specs.List.{list_any, sum_by}
use Rattle.std.specs.FinMap as table
use Rattle.gfs_types.specs.declared.config.Config.{Config}
use Rattle.gfs_types.specs.declared.ids.OrderNo.{OrderNo}
use Rattle.gfs_types.specs.declared.ids.Handle.{Handle}
use Rattle.gfs_types.specs.declared.ids.Version.{Version}
use Rattle.gfs_types.specs.declared.ids.Moment.{Moment}
use Rattle.messages.specs.declared.event.Event.{Event}
use Rattle.messages.specs.declared.message.Message.{Message}
use Rattle.messages.specs.declared.message.Body.{Body}
use Rattle.messages.specs.declared.message.Body.TheVariants as body
use Rattle.gfs_types.specs.Paths.{Path}
use Rattle.relaxed_file.specs.Names.{Names, File, IsTree, node_at}
use Rattle.protocol.specs.Tables.{Table, element_at, has_number}
use Rattle.protocol.specs.Sending.{the_server, handle_of, version_of, order_number}
use Rattle.protocol.specs.Choice.{Choice}
use Rattle.chunk_table.specs.ChunkTable.{ChunkRow, ChunkTable, chunk_of, handles_of, shape_of, no_shape}
use Rattle.protocol.specs.Logged.{Logged, Copy, all_copies_given_up, replayed}
use Rattle.leases.specs.LeaseHeld.{LeaseHeld, counts_at}
use Rattle.primary_order.specs.SerialOrder.{SerialOrder}
use Rattle.protocol.specs.Seen.{Taken}
use Rattle.protocol.specs.Master.{MasterState}
use Rattle.protocol.specs.MasterStep.{master_restart}
use Rattle.protocol.specs.Conforms.{IsLeftAs}
use Rattle.protocol.specs.Server.{ServerState}
use Rattle.protocol.specs.ServerStep.{server_at}
use Rattle.protocol.specs.Observer.{observed_moment}
use Rattle.protocol.specs.World.{WorldState, after_events, IsReached}

-- a message is this Grant, whatever size of the chunk it tells
abbrev pub IsGrantBody : OrderNo → Handle → Version → Moment → List ℕ → Body → Type 0
IsGrantBody order handle version end_moment members b = (chunk : ℕ) × (b ≡ body.Grant order handle version end_moment chunk members)

abbrev pub is_number : ℕ → ℕ → Option OrderNo → Bool
is_number epoch count None = false
is_number epoch count (Some order) = (order.epoch == epoch) && (order.count == count)

-- how many orders were sent under a number
abbrev pub orders_under : ℕ → ℕ → List Message → ℕ
orders_under epoch count sent = count_by (λ m. is_number epoch count (order_number m.body)) sent

-- No two orders of the master have one number (section 4.5).
abbrev pub OrdersAreNumberedOnce : Type 0
OrdersAreNumberedOnce =
    (config : Config) (servers clients : ℕ) (w : WorldState) → IsReached config servers clients w
    → (epoch count : ℕ) → orders_under epoch count w.sent ≤ 1

-- an order's number is the same or later
abbrev pub IsSameOrLater : ℕ → ℕ → ℕ → ℕ → Type 0
IsSameOrLater epoch count later_epoch later_count = (epoch < later_epoch) ⊎ ((epoch ≡ later_epoch) × (count ≤ later_count))

-- The number of the last order that a server took never falls, over restarts too (section 4.5).
abbrev pub OrderNumbersNeverFall : Type 0
OrderNumbersNeverFall =
    (config : Config) (servers clients : ℕ) (w : WorldState) → IsReached config servers clients w → (steps : List (Event × Choice))
    → (index : ℕ) (before after : ServerState) → element_at w.servers index ≡ Some before → element_at (after_events w steps).servers index ≡ Some after
    → IsSameOrLater before.disk.epoch before.disk.count after.disk.epoch after.disk.count

-- The granted version of a chunk is at most the issued one (section 3.1).
abbrev pub GrantedIsAtMostIssued : Type 0
GrantedIsAtMostIssued =
    (config : Config) (servers clients : ℕ) (w : WorldState) → IsReached config servers clients w
    → (handle : ℕ) (row : ChunkRow) → chunk_of w.master.logged.table handle ≡ Some row → row.granted ≤ row.issued

-- whether a message's sender tells that it has this version of a chunk: it recorded it, or reports it
abbrev pub tells_version : ℕ → ℕ → Body → Bool
tells_version handle version (body.Recorded h v) = (h.0 == handle) && (v.0 == version)
tells_version handle version (body.Report replicas leases) = list_any (λ line. (line.handle.0 == handle) && (line.version.0 == version)) replicas
tells_version handle version other = false

-- one of the messages before this place is the server's, which tells so
abbrev pub WasTold : List Message → ℕ → ℕ → ℕ → ℕ → Type 0
WasTold sent end server handle version =
    (place : ℕ) × (place < end) × (word : Message) × (element_at sent place ≡ Some word) × (word.sender ≡ the_server server) × IsTrue (tells_version handle version word.body)

-- Before a version is granted, each member has told that it has it (section 3.1).
abbrev pub MembersRecordedWhatIsGranted : Type 0
MembersRecordedWhatIsGranted =
    (config : Config) (servers clients : ℕ) (w : WorldState) → IsReached config servers clients w
    → (place : ℕ) (grant : Message) (order : OrderNo) (handle : Handle) (version : Version) (end_moment : Moment) (members : List ℕ)
    → element_at w.sent place ≡ Some grant → IsGrantBody order handle version end_moment members grant.body
    → (member : ℕ) → IsTrue (has_number members member) → WasTold w.sent place member handle.0 version.0

-- whether a message is a grant of this version of a chunk
abbrev pub is_grant : ℕ → ℕ → Body → Bool
is_grant handle version (body.Grant order h v end_moment chunk members) = (h.0 == handle) && (v.0 == version)
is_grant handle version other = false

-- how many grants of this version of a chunk were sent
abbrev pub grants_of : ℕ → ℕ → List Message → ℕ
grants_of handle version sent = count_by (λ m. is_grant handle version m.body) sent

-- A version of a chunk is granted at most once (section 3.1).
abbrev pub VersionsAreGrantedOnce : Type 0
VersionsAreGrantedOnce =
    (config : Config) (servers clients : ℕ) (w : WorldState) → IsReached config servers clients w → (handle version : ℕ) → grants_of handle version w.sent ≤ 1

-- one of the messages is the grant of this lease to this server, with this size of the chunk
abbrev pub WasGranted : List Message → ℕ → ℕ → ℕ → LeaseHeld → Type 0
WasGranted sent server handle chunk held =
    (place : ℕ) × (grant : Message) × (element_at sent place ≡ Some grant) × (grant.receiver ≡ the_server server) × (order : OrderNo) × (end_moment : Moment)
    × (grant.body ≡ body.Grant order (handle_of handle) (version_of held.version) end_moment chunk held.members)

-- one of the messages is a Grant of this version of a chunk, with this size of it
abbrev pub IsSizeGranted : List Message → (handle version size : ℕ) → Type 0
IsSizeGranted sent handle version size =
    (place : ℕ) × (grant : Message) × (element_at sent place ≡ Some grant) × (order : OrderNo) × (end_moment : Moment) × (members : List ℕ)
    × (grant.body ≡ body.Grant order (handle_of handle) (version_of version) end_moment size members)

-- whether a message tells that the lease of this version of a chunk ends at this moment
abbrev pub tells_end : ℕ → ℕ → ℕ → Body → Bool
tells_end handle version until (body.Grant order h v end_moment chunk members) = (h.0 == handle) && (v.0 == version) && (end_moment.0 == until)
tells_end handle version until (body.Extend h v end_moment) = (h.0 == handle) && (v.0 == version) && (end_moment.0 == until)
tells_end handle version until other = false

-- one of the messages tells so
abbrev pub WasEndTold : List Message → ℕ → ℕ → ℕ → Type 0
WasEndTold sent handle version until = (place : ℕ) × (word : Message) × (element_at sent place ≡ Some word) × IsTrue (tells_end handle version until word.body)

-- A lease that a server holds was granted to it, with its members and the size of the chunk, and ends as the master told (section 3.1).
abbrev pub LeasesAreTold : Type 0
LeasesAreTold =
    (config : Config) (servers clients : ℕ) (w : WorldState) → IsReached config servers clients w
    → (index : ℕ) (s : ServerState) → element_at w.servers index ≡ Some s → (handle : ℕ) (p : SerialOrder) → table.get s.leases handle ≡ Some p
    → WasGranted w.sent (suc index) handle p.chunk p.held × WasEndTold w.sent handle p.held.version p.held.until

-- The lease of a version of a chunk is held by one server at most (section 3.1).
abbrev pub VersionsHaveOnePrimary : Type 0
VersionsHaveOnePrimary =
    (config : Config) (servers clients : ℕ) (w : WorldState) → IsReached config servers clients w
    → (index other : ℕ) (s t : ServerState) → element_at w.servers index ≡ Some s → element_at w.servers other ≡ Some t
    → (handle : ℕ) (p q : SerialOrder) → table.get s.leases handle ≡ Some p → table.get t.leases handle ≡ Some q → p.held.version ≡ q.held.version → index ≡ other

-- a server holds this lease of a chunk, and it ends after the greatest moment that was given to a node
abbrev pub HoldsLastingLease : WorldState → ℕ → ℕ → SerialOrder → Type 0
HoldsLastingLease w index handle p = (s : ServerState) × (element_at w.servers index ≡ Some s) × (table.get s.leases handle ≡ Some p) × (w.observer.greatest < p.held.until)

-- Where clocks are kept, a lease that lasts is of the version that the master granted last, its server is the chunk's primary, and it has not ended at the master before (section 3.1).
abbrev pub LastingLeasesAreOfTheMaster : Type 0
LastingLeasesAreOfTheMaster =
    (config : Config) (servers clients : ℕ) (w : WorldState) → IsReached config servers clients w → IsTrue w.observer.are_clocks_kept → IsTrue w.master.up
    → (index handle : ℕ) (p : SerialOrder) → HoldsLastingLease w index handle p → (row : ChunkRow) → chunk_of w.master.logged.table handle ≡ Some row
    → (p.held.version ≡ row.granted) × (suc index ≡ row.primary) × (p.held.until ≤ row.lease_end)

-- In the log too, also of a master that is down, it is of that version and that primary (section 3.1).
abbrev pub LastingLeasesAreInTheLog : Type 0
LastingLeasesAreInTheLog =
    (config : Config) (servers clients : ℕ) (w : WorldState) → IsReached config servers clients w → IsTrue w.observer.are_clocks_kept
    → (index handle : ℕ) (p : SerialOrder) → HoldsLastingLease w index handle p → (row : ChunkRow) → chunk_of (replayed w.master.disk).table handle ≡ Some row
    → (p.held.version ≡ row.granted) × (suc index ≡ row.primary)

-- Where clocks are kept, a lease that counts for its primary as it begins a step is of the version that the master granted last, its server is the chunk's primary, and it has not ended at the master (section 3.1).
abbrev pub CountingLeasesHaveNotEnded : Type 0
CountingLeasesHaveNotEnded =
    (config : Config) (servers clients : ℕ) (w : WorldState) → IsReached config servers clients w → (moment : ℕ) → IsTrue (observed_moment w.config.skew_ms w.observer moment).are_clocks_kept → IsTrue w.master.up
    → (index handle : ℕ) (s : ServerState) (p : SerialOrder) → element_at w.servers index ≡ Some s → table.get s.leases handle ≡ Some p → IsTrue (counts_at s.config.skew_ms p.held (server_at s moment).now)
    → (row : ChunkRow) → chunk_of w.master.logged.table handle ≡ Some row → (p.held.version ≡ row.granted) × (suc index ≡ row.primary) × (w.master.now < row.lease_end)

-- Where clocks are kept, one lease of a chunk lasts at most (section 3.1).
abbrev pub OneLeaseLasts : Type 0
OneLeaseLasts =
    (config : Config) (servers clients : ℕ) (w : WorldState) → IsReached config servers clients w → IsTrue w.observer.are_clocks_kept
    → (index other handle : ℕ) (p q : SerialOrder) → HoldsLastingLease w index handle p → HoldsLastingLease w other handle q → index ≡ other

-- The names of a master that is up are a tree (section 4.1).
abbrev pub MasterNamesAreATree : Type 0
MasterNamesAreATree =
    (config : Config) (servers clients : ℕ) (w : WorldState) → IsReached config servers clients w → IsTrue w.master.up → IsTree w.master.logged.names

-- the same but for files and chunks: names, counters, epoch and the answers that are kept
abbrev pub HaveSameNames : Logged → Logged → Type 0
HaveSameNames l k = (l.names ≡ k.names) × (l.next_file ≡ k.next_file) × (l.next_handle ≡ k.next_handle) × (l.epoch ≡ k.epoch) × (l.kept ≡ k.kept)

-- The log, replayed, has the names, counters, epoch and kept answers of a master that is up (sections 2.6.3 and 4.1).
abbrev pub LogHasTheNames : Type 0
LogHasTheNames =
    (config : Config) (servers clients : ℕ) (w : WorldState) → IsReached config servers clients w → IsTrue w.master.up → HaveSameNames w.master.logged (replayed w.master.disk)

-- The log, replayed, has the files of a master that is up, with their lists of chunks (sections 2.6.1 and 2.6.3).
abbrev pub LogHasTheFiles : Type 0
LogHasTheFiles =
    (config : Config) (servers clients : ℕ) (w : WorldState) → IsReached config servers clients w → IsTrue w.master.up → w.master.logged.table.files ≡ (replayed w.master.disk).table.files

-- the path is a name of the file
abbrev pub IsNamed : Names → Path → ℕ → Type 0
IsNamed names path file = node_at names path ≡ Some (File file)

-- each file has just one name, and each name's file is there
abbrev pub EachFileHasOneName : Logged → Type 0
EachFileHasOneName l =
    ((file : ℕ) → IsTrue (table.contains_key l.table.files file) → (path : Path) × IsNamed l.names path file × ((other : Path) → IsNamed l.names other file → path ≡ other))
    × ((path : Path) (file : ℕ) → IsNamed l.names path file → IsTrue (table.contains_key l.table.files file))

-- At a master that is up each file has just one name, and each name's file is there; and so in its log, replayed (sections 2.6.1 and 4.1).
abbrev pub FilesHaveOneName : Type 0
FilesHaveOneName =
    (config : Config) (servers clients : ℕ) (w : WorldState) → IsReached config servers clients w → IsTrue w.master.up
    → EachFileHasOneName w.master.logged × EachFileHasOneName (replayed w.master.disk)

-- how many times a handle stands in files
abbrev pub times_in : Table (List ℕ) → ℕ → ℕ
times_in files handle = sum_by (λ e. count_by (λ h. h == handle) e.1) (table.entries files)

-- each chunk has as many references as its handle stands in files, and what stands in a file is a chunk
abbrev pub HasAllReferences : ChunkTable → Type 0
HasAllReferences t =
    ((handle : ℕ) (row : ChunkRow) → chunk_of t handle ≡ Some row → row.references ≡ times_in t.files handle)
    × ((handle : ℕ) → 1 ≤ times_in t.files handle → IsTrue (table.contains_key t.chunks handle))

-- At a master that is up each chunk has as many references as its handle stands in files, and what stands in a file is a chunk; and so in its log, replayed (section 3.4).
abbrev pub ReferencesAreCounted : Type 0
ReferencesAreCounted =
    (config : Config) (servers clients : ℕ) (w : WorldState) → IsReached config servers clients w → IsTrue w.master.up
    → HasAllReferences w.master.logged.table × HasAllReferences (replayed w.master.disk).table

-- a chunk's row, the end of its lease and its shape aside: shapes that a log doesn't tell are known from the opening on
abbrev pub row_but_end : ChunkRow → ChunkRow
row_but_end row = record row { shape = no_shape; lease_end = 0 }

abbrev pub chunk_but_end : ChunkTable → ℕ → Option ChunkRow
chunk_but_end t handle = option_map row_but_end (chunk_of t handle)

-- The log, replayed, has the chunks of a master that is up, but for the ends of leases, for shapes and for copies under way, which a restart gives up (sections 2.6.3 and 3.4).
abbrev pub LogHasTheChunks : Type 0
LogHasTheChunks =
    (config : Config) (servers clients : ℕ) (w : WorldState) → IsReached config servers clients w → IsTrue w.master.up
    → (handle : ℕ) → chunk_but_end (all_copies_given_up w.master.logged).table handle ≡ chunk_but_end (replayed w.master.disk).table handle

-- Each file has a shape, which each of its chunks has; a copy under way has that of the file that it is for.
pub record HaveFilesShapes (l : Logged) : Type 0 where
  pub known : (file : ℕ) → IsTrue (table.contains_key l.table.files file) → IsTrue (table.contains_key l.table.shapes file)
  pub chunks : (file index handle : ℕ) (row : ChunkRow) → element_at (handles_of l.table file) index ≡ Some handle → chunk_of l.table handle ≡ Some row → row.shape ≡ shape_of l.table file
  pub copies : (handle : ℕ) (c : Copy) (row : ChunkRow) → table.get l.copies handle ≡ Some c → chunk_of l.table handle ≡ Some row → row.shape ≡ shape_of l.table c.file

-- So it is of a master that is up, and of its log, replayed (sections 2.3 and 3.4).
abbrev pub ChunksHaveTheirFilesShapes : Type 0
ChunksHaveTheirFilesShapes =
    (config : Config) (servers clients : ℕ) (w : WorldState) → IsReached config servers clients w → IsTrue w.master.up
    → HaveFilesShapes w.master.logged × HaveFilesShapes (replayed w.master.disk)

-- The log, replayed, tells the shape of each file of a master that is up, as it is there; no file's chunks have fewer than 64 bytes (sections 2.3 and 2.6.3).
abbrev pub LogHasTheShapes : Type 0
LogHasTheShapes =
    (config : Config) (servers clients : ℕ) (w : WorldState) → IsReached config servers clients w → IsTrue w.master.up
    → (file : ℕ) → IsTrue (table.contains_key w.master.logged.table.files file)
    → (shape_of w.master.logged.table file ≡ shape_of (replayed w.master.disk).table file) × (64 ≤ (shape_of w.master.logged.table file).chunk)

-- What a step of the master gave with what its code has, and what the definitions give: the same output, the same that is seen, and what a stop may leave.
abbrev pub IsGivenAs : Taken MasterState → Taken MasterState → Type 0
IsGivenAs t held = (held.out ≡ t.out) × (held.seen ≡ t.seen) × IsLeftAs t.state held.state

-- A restart of a master as its code has it is a restart of the master of the definitions, for some choice.
abbrev pub RestartsOfWhatIsLeft : Type 0
RestartsOfWhatIsLeft =
    (m held : MasterState) → IsLeftAs m held → (moment : ℕ) (choice : Choice) → (other : Choice) × IsGivenAs (master_restart m moment other) (master_restart held moment choice)
