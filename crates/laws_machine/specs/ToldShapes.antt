-- The shapes that clients were told are those of the machine's files, from each world to the next (sections 2.3, 2.4 and 3.3).
use Rattle.std.specs.Prelude.{◌≡◌, ℕ, ◌≤◌, List, Some, IsTrue}
use Rattle.std.specs.FinMap as table
use Rattle.gfs_types.specs.declared.config.Config.{Config}
use Rattle.gfs_types.specs.declared.ids.FileId.{FileId}
use Rattle.gfs_types.specs.declared.shape.Shape.{Shape}
use Rattle.messages.specs.declared.event.Event.{Event}
use Rattle.messages.specs.declared.message.Body.TheVariants as body
use Rattle.messages.specs.declared.message.Location.{Location}
use Rattle.messages.specs.declared.message.Message.{Message}
use Rattle.messages.specs.declared.message.NameReply.TheVariants.{Opened}
use Rattle.chunk_table.specs.ChunkTable.{shape_of}
use Rattle.relaxed_file.specs.Machine.{Machine}
use Rattle.relaxed_file.specs.Run.{LeadsTo}
use Rattle.relaxed_file.specs.Run as run
use Rattle.protocol.specs.Choice.{Choice}
use Rattle.protocol.specs.Logged.{Logged}
use Rattle.protocol.specs.Tables.{element_at}
use Rattle.protocol.specs.World.{WorldState, happens, IsReached}
use Rattle.laws_versions.specs.ReplacedChunks.{IsToldAt}

-- The file was made, with this shape, which has chunks of a byte at least.
abbrev pub IsMadeWith : Machine → ℕ → Shape → Type 0
IsMadeWith m file shape = (file ≤ m.file_count) × (shape ≡ (m.files file).shape) × (1 ≤ shape.chunk)

-- So are a file that an Open found, with the shape that was told of it, and one for whose chunk a client asked, with that of the location that it was told of a chunk that was granted.
pub record AreShapesTold (sent : List Message) (m : Machine) : Type 0 where
  pub opened : (place number : ℕ) (x : Message) (file : FileId) (shape : Shape) → element_at sent place ≡ Some x → x.body ≡ body.Named number (Opened file shape) → IsMadeWith m file.0 shape
  pub located : (client file : ℕ) (l : Location) (place : ℕ) → IsToldAt sent client file l place → IsMadeWith m file l.shape

-- the machine has made each file of the log, with its shape
abbrev pub HasMadeFiles : Logged → Machine → Type 0
HasMadeFiles l m = (file : ℕ) → IsTrue (table.contains_key l.table.files file) → IsMadeWith m file (shape_of l.table file)

-- Where clocks are kept, from one world to the next they are so, however the machine goes on, where it has the files of a master that is up, with their shapes.
abbrev pub ToldShapesGoOn : Type 0
ToldShapesGoOn =
    (config : Config) (servers clients : ℕ) (w : WorldState) → IsReached config servers clients w → (e : Event) (choice : Choice) → IsTrue (happens w e choice).world.observer.are_clocks_kept
    → (m n : Machine) → run.IsReached config m → LeadsTo m n → (IsTrue w.master.up → HasMadeFiles w.master.logged m) → AreShapesTold w.sent m → AreShapesTold (happens w e choice).world.sent n
