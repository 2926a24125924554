-- Shapes of files: the master's are the machine's, each chunk has its file's, a copy under way that of the file that it is for, and each shape is the usual one or fits.
use Rattle.std.specs.Prelude.{◌≡◌, ◌⊎◌, ℕ, suc, List, IsSomeAnd, IsTrue}
use Rattle.gfs_types.specs.Shapes.{usual_shape, fits}
use Rattle.chunk_table.specs.ChunkTable.{chunk_of, shape_of}
use Rattle.relaxed_file.specs.Machine.{Machine}
use Rattle.protocol.specs.World.{WorldState}
use Rattle.protocol.specs.Each.{EachEntry, EachPlace, EachNumber}
use Rattle.protocol_invariant.specs.Ghost.{logged_of}

-- a file that is there, and its chunks
pub record IsShapedFile (w : WorldState) (m : Machine) (file : ℕ) (handles : List ℕ) : Type 0 where
  pub shape_is : shape_of (logged_of w.master).table file ≡ (m.files file).shape
  pub chunks : EachPlace handles (λ index handle. IsSomeAnd (chunk_of (logged_of w.master).table handle) (λ row. row.shape ≡ (m.files file).shape))

pub record AreShapes (w : WorldState) (m : Machine) : Type 0 where
  pub files : EachEntry (logged_of w.master).table.files (λ file handles. IsShapedFile w m file handles)
  pub copies : EachEntry (logged_of w.master).copies (λ handle c. IsSomeAnd (chunk_of (logged_of w.master).table handle) (λ row. row.shape ≡ (m.files c.file).shape))
  pub fit : EachNumber m.file_count (λ n. ((m.files (suc n)).shape ≡ usual_shape m.config) ⊎ IsTrue (fits m.config (m.files (suc n)).shape))
