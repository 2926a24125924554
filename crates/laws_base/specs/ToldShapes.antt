-- Laws of a step of the master on the shapes that it tells clients, that public functions of this crate state.
use Rattle.std.specs.Prelude.{◌≡◌, ◌⊎◌, ℕ, ◌≤◌, Some}
use Rattle.gfs_types.specs.declared.ids.FileId.{FileId}
use Rattle.gfs_types.specs.declared.shape.Shape.{Shape}
use Rattle.messages.specs.declared.event.NodeInput.{NodeInput}
use Rattle.messages.specs.declared.message.Body.TheVariants as body
use Rattle.messages.specs.declared.message.Location.{Location}
use Rattle.messages.specs.declared.message.Message.{Message}
use Rattle.messages.specs.declared.message.NameReply.TheVariants.{Opened}
use Rattle.chunk_table.specs.ChunkTable.{ChunkRow, chunk_of, shape_of}
use Rattle.protocol.specs.Tables.{element_at}
use Rattle.protocol.specs.Choice.{Choice}
use Rattle.protocol.specs.Logged.{Logged}
use Rattle.protocol.specs.Master.{MasterState}
use Rattle.protocol.specs.MasterStep.{master_step}
use Rattle.gfs_types.specs.Paths.{Path}
use Rattle.relaxed_file.specs.Names.{File, node_at}

-- A file that an Open found has a name that the master has logged, and is told with the shape that is logged of it (section 2.3).
abbrev pub OpenedShapesAreLogged : Type 0
OpenedShapesAreLogged =
    (m : MasterState) (moment : ℕ) (i : NodeInput) (choice : Choice) (place : ℕ) (x : Message) → element_at (master_step m moment i choice).out.sent place ≡ Some x
    → (number : ℕ) (file : FileId) (shape : Shape) → x.body ≡ body.Named number (Opened file shape)
    → (shape ≡ shape_of m.logged.table file.0) × (path : Path) × (node_at m.logged.names path ≡ Some (File file.0))

-- the chunk has this shape, or its handle is new and a file has it
abbrev pub IsShapeIn : Logged → ℕ → Shape → Type 0
IsShapeIn l handle shape = ((row : ChunkRow) × (chunk_of l.table handle ≡ Some row) × (row.shape ≡ shape)) ⊎ ((l.next_handle ≤ handle) × (file : ℕ) × (shape ≡ shape_of l.table file))

-- Where a chunk is, is told with the chunk's shape, or, where its handle is new, with that of a file (section 2.3).
abbrev pub ToldShapesAreOfTheirChunks : Type 0
ToldShapesAreOfTheirChunks =
    (m : MasterState) (moment : ℕ) (i : NodeInput) (choice : Choice) (place : ℕ) (x : Message) → element_at (master_step m moment i choice).out.sent place ≡ Some x
    → (number : ℕ) (l : Location) → x.body ≡ body.Told number (Some l) → IsShapeIn m.logged l.handle.0 l.shape
