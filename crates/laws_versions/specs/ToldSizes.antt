-- Laws of every lawful list of events on the shapes of files and sizes of chunks that messages carry, that public functions of this crate state.
use Rattle.std.specs.Prelude.{◌≡◌, ℕ, ◌≤◌, ◌<◌, min, List, Some, IsTrue}
use Rattle.std.specs.FinMap as table
use Rattle.gfs_types.specs.declared.config.Config.{Config}
use Rattle.gfs_types.specs.declared.ids.DataId.{DataId}
use Rattle.gfs_types.specs.declared.ids.Handle.{Handle}
use Rattle.gfs_types.specs.declared.ids.Moment.{Moment}
use Rattle.gfs_types.specs.declared.ids.Node.{Node}
use Rattle.gfs_types.specs.declared.ids.OrderNo.{OrderNo}
use Rattle.gfs_types.specs.declared.ids.Serial.{Serial}
use Rattle.gfs_types.specs.declared.ids.Version.{Version}
use Rattle.gfs_types.specs.declared.shape.Shape.{Shape}
use Rattle.messages.specs.declared.event.Event.{Event}
use Rattle.messages.specs.declared.event.NodeInput.{NodeInput}
use Rattle.messages.specs.declared.message.Body.TheVariants as body
use Rattle.messages.specs.declared.message.Change.{Change}
use Rattle.messages.specs.declared.message.Location.{Location}
use Rattle.messages.specs.declared.message.Message.{Message}
use Rattle.chunk_table.specs.ChunkTable.{ChunkRow, chunk_of, handles_of, shape_of}
use Rattle.protocol.specs.Tables.{element_at}
use Rattle.protocol.specs.Choice.{Choice}
use Rattle.protocol.specs.Logged.{Logged, Copy}
use Rattle.protocol.specs.MasterStep.{master_step}
use Rattle.protocol.specs.Observer.{Placed, order_of}
use Rattle.protocol.specs.World.{WorldState, new_world, happens, after_events, IsReached}
use Rattle.laws_base.specs.Laws.{IsSizeGranted, grants_of}
use Rattle.laws_base.specs.ChunkOrders.{WasCopied, IsSource}
use Rattle.laws_base.specs.PlacedEntries.{LiesWithin}
use Rattle.laws_versions.specs.ReplacedChunks.{IsToldAt}

-- one of the messages before this place is a Grant of the version to this node, with this size of the chunk
abbrev pub WasGrantedWith : List Message → ℕ → Node → Handle → Version → ℕ → Type 0
WasGrantedWith sent end receiver handle version chunk =
    (place : ℕ) × (place < end) × (grant : Message) × (element_at sent place ≡ Some grant) × (grant.receiver ≡ receiver)
    × (order : OrderNo) × (end_moment : Moment) × (members : List ℕ) × (grant.body ≡ body.Grant order handle version end_moment chunk members)

-- A Forward tells the size of the chunk with which its version was granted to its sender before (section 3.1).
abbrev pub ForwardsTellTheGrantedSize : Type 0
ForwardsTellTheGrantedSize =
    (config : Config) (servers clients : ℕ) (w : WorldState) → IsReached config servers clients w
    → (place : ℕ) (m : Message) → element_at w.sent place ≡ Some m
    → (handle : Handle) (version : Version) (serial : Serial) (id : DataId) (chunk : ℕ) (c : Change) → m.body ≡ body.Forward handle version serial id chunk c
    → WasGrantedWith w.sent place m.sender handle version chunk

-- This holds of the shape of each file that has the chunk, and of the file that it is a copy for.
pub record IsOfFiles (l : Logged) (handle : ℕ) (P : Shape → Type 0) : Type 0 where
  pub files : (file index : ℕ) → element_at (handles_of l.table file) index ≡ Some handle → P (shape_of l.table file)
  pub copies : (c : Copy) → table.get l.copies handle ≡ Some c → P (shape_of l.table c.file)

-- A Grant tells the size of the chunks of each file that has its chunk as the step begins, and of the file that it is a copy for (section 3.1).
abbrev pub GrantsTellTheirFilesSizes : Type 0
GrantsTellTheirFilesSizes =
    (config : Config) (servers clients : ℕ) (w : WorldState) → IsReached config servers clients w → IsTrue w.master.up
    → (moment : ℕ) (i : NodeInput) (choice : Choice) (place : ℕ) (x : Message) → element_at (master_step w.master moment i choice).out.sent place ≡ Some x
    → (order : OrderNo) (handle : Handle) (version : Version) (end_moment : Moment) (chunk : ℕ) (members : List ℕ) → x.body ≡ body.Grant order handle version end_moment chunk members
    → IsOfFiles w.master.logged handle.0 (λ s. chunk ≡ s.chunk)

-- Where a chunk is, is told with the shape of each file that has it as the step begins, and of the file that it is a copy for (section 2.3).
abbrev pub ToldShapesAreTheirFiles : Type 0
ToldShapesAreTheirFiles =
    (config : Config) (servers clients : ℕ) (w : WorldState) → IsReached config servers clients w → IsTrue w.master.up
    → (moment : ℕ) (i : NodeInput) (choice : Choice) (place : ℕ) (x : Message) → element_at (master_step w.master moment i choice).out.sent place ≡ Some x
    → (number : ℕ) (l : Location) → x.body ≡ body.Told number (Some l) → IsOfFiles w.master.logged l.handle.0 (λ s. l.shape ≡ s)

-- A version that an event grants, of a chunk that had a row before it and has one after it, is granted with the size of both rows (section 3.1).
abbrev pub GrantsTellTheirRowsSize : Type 0
GrantsTellTheirRowsSize =
    (config : Config) (servers clients : ℕ) (w : WorldState) → IsReached config servers clients w → (e : Event) (choice : Choice)
    → (handle version size : ℕ) → grants_of handle version w.sent ≡ 0 → IsSizeGranted (happens w e choice).world.sent handle version size
    → (before after : ChunkRow) → chunk_of w.master.logged.table handle ≡ Some before → chunk_of (happens w e choice).world.master.logged.table handle ≡ Some after
    → (size ≡ before.shape.chunk) × (size ≡ after.shape.chunk)

-- All Grants of a chunk, whatever their versions, tell one size, of 64 bytes at least (sections 2.3 and 3.1).
abbrev pub ChunksHaveOneSize : Type 0
ChunksHaveOneSize =
    (config : Config) (servers clients : ℕ) (w : WorldState) → IsReached config servers clients w
    → (handle version later size other : ℕ) → IsSizeGranted w.sent handle version size → IsSizeGranted w.sent handle later other → (size ≡ other) × (64 ≤ size)

-- Those of a copy, and of a copy's copy, tell the size that those of its source tell (section 3.4).
abbrev pub CopiesHaveTheirSourcesSize : Type 0
CopiesHaveTheirSourcesSize =
    (config : Config) (servers clients : ℕ) (steps : List (Event × Choice)) (from handle : ℕ) → IsSource (WasCopied (new_world config servers clients) steps) from handle
    → (version later size other : ℕ) → IsSizeGranted (after_events (new_world config servers clients) steps).sent from version size
    → IsSizeGranted (after_events (new_world config servers clients) steps).sent handle later other → size ≡ other

-- So each entry in the order of a chunk that was granted was placed in a round that was granted with the same size, of whichever chunk, and lies within it (section 3.3).
abbrev pub EntriesAreOfTheirChunksSize : Type 0
EntriesAreOfTheirChunksSize =
    (config : Config) (servers clients : ℕ) (steps : List (Event × Choice)) (handle place : ℕ) (p : Placed)
    → element_at (order_of (after_events (new_world config servers clients) steps).observer handle) place ≡ Some p
    → (version size : ℕ) → IsSizeGranted (after_events (new_world config servers clients) steps).sent handle version size
    → (from : ℕ) × IsSizeGranted (after_events (new_world config servers clients) steps).sent from p.entry.round size × LiesWithin (min size config.chunk) p.entry.mutation

-- Where clocks are kept, a location that was told of a chunk that was granted tells the size with which it was granted (sections 2.3 and 3.1).
abbrev pub ToldShapesHaveTheGrantedSize : Type 0
ToldShapesHaveTheGrantedSize =
    (config : Config) (servers clients : ℕ) (w : WorldState) → IsReached config servers clients w → IsTrue w.observer.are_clocks_kept
    → (client file : ℕ) (l : Location) (place : ℕ) → IsToldAt w.sent client file l place
    → (version size : ℕ) → IsSizeGranted w.sent l.handle.0 version size → l.shape.chunk ≡ size
