-- The shapes of the master's files are those at the machine: of a new file, of copies, and where one is collected.
use Rattle.std.proofs.Common.{◌≡◌, ⊎_elim, ℕ, true, List, [], ◌∷◌, Option, sym, ap, ◌∙◌, inr}
use Rattle.std.specs.Prelude.{unwrap_or}
use Rattle.std.specs.List.{AllByRecursion}
use Rattle.std.proofs.lemmas.Bool.{true≢false}
use Rattle.std.specs.FinMap as table
use Rattle.gfs_types.specs.declared.shape.Shape.{Shape}
use Rattle.gfs_types.specs.Paths.{Path}
use Rattle.relaxed_file.specs.Names.{Node, Dir, File, id_after}
use Rattle.relaxed_file.specs.Machine.{FileState, put}
use Rattle.relaxed_file.specs.NameStep.{with_copied_file, with_copied_files}
use Rattle.relaxed_file.proofs.Tables.{put_is, put_other}
use Rattle.chunk_table.specs.ChunkTable.{ChunkTable, no_shape, shape_of, handles_of}
use Rattle.protocol.specs.Tables.{Table}
use Rattle.protocol.specs.Logged.{with_copied_node, with_copied_nodes}
use Rattle.laws_base.proofs.Steps.{put_there, put_other as kept_other, gone_other}
use Rattle.laws_base.proofs.FilesNamed.{put_key}
use Rattle.laws_names.proofs.OpenCalls.{same_or_not}
use Rattle.laws_names.proofs.FilesThere.{HasKey, key_other, key_gone, key_left}

abbrev pub AreShapesOf : Table (List ℕ) → Table Shape → (ℕ → FileState) → Type 0
AreShapesOf files shapes states = (file : ℕ) → HasKey files file → unwrap_or (table.get shapes file) no_shape ≡ (states file).shape

-- one more file
pub shape_put : (files : Table (List ℕ)) (shapes : Table Shape) (states : ℕ → FileState) (next : ℕ) (hs : List ℕ) (s : Shape) (state : FileState) → s ≡ state.shape → AreShapesOf files shapes states
    → AreShapesOf (table.insert files next hs) (table.insert shapes next s) (put next state states)
shape_put files shapes states next hs s state is h q has = ⊎_elim
    (λ same. ap (λ (o : Option Shape). unwrap_or o no_shape) (put_there shapes next s q same) ∙ is ∙ sym (ap (λ (x : FileState). x.shape) (put_is next state states q same)))
    (λ other.
    ap (λ (o : Option Shape). unwrap_or o no_shape) (kept_other shapes next s q other) ∙ h q (sym (key_other files next hs q other) ∙ has)
    ∙ sym (ap (λ (x : FileState). x.shape) (put_other next state states q other)))
    (same_or_not q next)

-- a file that is collected
pub shape_gone : (files : Table (List ℕ)) (shapes : Table Shape) (states : ℕ → FileState) (file : ℕ) (state : FileState) → AreShapesOf files shapes states
    → AreShapesOf (table.remove files file) (table.remove shapes file) (put file state states)
shape_gone files shapes states file state h q has = ⊎_elim
    (λ same. absurd (true≢false (sym has ∙ key_gone files file q same)))
    (λ other.
    ap (λ (o : Option Shape). unwrap_or o no_shape) (gone_other shapes file q other) ∙ h q (sym (key_left files file q other) ∙ has)
    ∙ sym (ap (λ (x : FileState). x.shape) (put_other file state states q other)))
    (same_or_not q file)

-- copies

-- a file that is there, or a directory
abbrev pub IsThere : Table (List ℕ) → Node → Type 0
IsThere files Dir = Unit {0}
IsThere files (File id) = HasKey files id

there_still : (files : Table (List ℕ)) (next : ℕ) (hs : List ℕ) (n : Node) → IsThere files n → IsThere (table.insert files next hs) n
there_still files next hs Dir is = tt
there_still files next hs (File id) is = put_key files next hs id (inr is)

all_there_still : (files : Table (List ℕ)) (next : ℕ) (hs : List ℕ) (es : List (Path × Node)) → AllByRecursion (λ e. IsThere files e.1) es → AllByRecursion (λ e. IsThere (table.insert files next hs) e.1) es
all_there_still files next hs [] all = tt
all_there_still files next hs (e ∷ rest) all = (there_still files next hs e.1 all.0, all_there_still files next hs rest all.1)

pub shapes_copied : (es : List (Path × Node)) (t : ChunkTable) (states : ℕ → FileState) (next : ℕ) → AllByRecursion (λ e. IsThere t.files e.1) es → AreShapesOf t.files t.shapes states
    → AreShapesOf (with_copied_nodes t next es).files (with_copied_nodes t next es).shapes (with_copied_files states next es)
shapes_copied [] t states next all h = h
shapes_copied (e ∷ rest) t states next all h = shapes_copied rest (with_copied_node t next e.1) (with_copied_file states next e.1) (id_after next e.1) (more e.1) (one e.1 all.0)
  where
    more : (n : Node) → AllByRecursion (λ x. IsThere (with_copied_node t next n).files x.1) rest
    more Dir = all.1
    more (File id) = all_there_still t.files next (handles_of t id) rest all.1

    one : (n : Node) → IsThere t.files n → AreShapesOf (with_copied_node t next n).files (with_copied_node t next n).shapes (with_copied_file states next n)
    one Dir is = h
    one (File id) is = shape_put t.files t.shapes states next (handles_of t id) (shape_of t id) (states id) (h id is) h
