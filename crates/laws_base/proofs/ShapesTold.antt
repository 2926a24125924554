-- Each file's shape is told in the log: it is the state's, and has chunks of 64 bytes at least.
use Rattle.std.proofs.Common.{◌≡◌, ◌⊎◌, ℕ, ◌≤◌, List, [], ◌∷◌, Option, Some, None, is_some, refl, sym, ap, subst, ◌∙◌, inl, inr, arith}
use Rattle.std.specs.Prelude.{unwrap_or}
use Rattle.std.specs.List.{AllByRecursion}
use Rattle.std.specs.Ordering.{nat_cmp}
use Rattle.std.specs.FinMap as table
use Rattle.gfs_types.specs.declared.shape.Shape.{Shape}
use Rattle.gfs_types.specs.Shapes.{shape_or}
use Rattle.gfs_types.specs.Paths.{Path}
use Rattle.log_records.specs.declared.record.Record.{Record}
use Rattle.log_records.specs.declared.record.Record.TheVariants as log
use Rattle.relaxed_file.specs.Names.{Node, Dir, File, node_at, id_after, copied_entries}
use Rattle.chunk_table.specs.ChunkTable.{ChunkTable, no_shape, shape_of, handles_of, grant, known_shape}
use Rattle.protocol.specs.Tables.{Table, map_values}
use Rattle.protocol.specs.Logged.{Logged, Copy, first_logged, after_record, after_records, checkpoint_of, swapped_in, with_copied_node, with_copied_nodes}
use Rattle.laws_base.specs.Laws.{LogHasTheShapes}
use Rattle.laws_base.proofs.Steps.{none_some, same_some, same_or_not, put_cases, put_split, put_there, put_other, gone_split, gone_other, kept_cases}
use Rattle.laws_base.proofs.Namespace.{told_least}
use Rattle.laws_base.proofs.MasterMoves.{IsDue, AreNames}
use Rattle.laws_base.proofs.OrderNumbers.{state_of}
use Rattle.laws_base.proofs.LoggedParts.{Parts, parts_of}
use Rattle.laws_base.proofs.FilesNamed.{Files, HasFile, split_key, put_key, copied_nodes}
use Rattle.laws_base.proofs.OneName.{HasOneName}
use Rattle.laws_base.proofs.ChunkRows.{Rows}
use Rattle.laws_base.proofs.NamesReached.{AreShapedBy, IsKeptByLog, logged_reached, known_stays}
use Rattle.laws_base.proofs.ShapesKept.{HasShape, IsReadBack, checkpoint_read, IsFoundShapes, IsShapedLog, shapes_kept}
use Rattle.laws_base.proofs.Entries.{mapped_at}

-- each shape of a file has chunks of 64 bytes at least
abbrev pub AreTold : Table Shape → Type 0
AreTold shapes = (file : ℕ) (s : Shape) → table.get shapes file ≡ Some s → 64 ≤ s.chunk

-- the other table has the shapes of the files of this one
abbrev pub HasShapesOf : ChunkTable → ChunkTable → Type 0
HasShapesOf t u = (file : ℕ) (s : Shape) → HasFile t.files file → table.get t.shapes file ≡ Some s → table.get u.shapes file ≡ Some s

pub shape_is : (t : ChunkTable) (file : ℕ) (s : Shape) → table.get t.shapes file ≡ Some s → shape_of t file ≡ s
shape_is t file s is = ap (λ (o : Option Shape). unwrap_or o no_shape) is

-- a file that was there before another one was put
before_put : (files : Files) (n : ℕ) (hs : List ℕ) (file : ℕ) → (file ≡ n → ⊥) → HasFile (table.insert files n hs) file → HasFile files file
before_put files n hs file other has = elim (split_key files n hs file has) [ inl same ↦ absurd (other same) | inr before ↦ before ]

-- a file whose list is put again
put_again : (files : Files) (n : ℕ) (hs : List ℕ) (file : ℕ) → HasFile files n → HasFile (table.insert files n hs) file → HasFile files file
put_again files n hs file there has = elim (split_key files n hs file has) [ inl same ↦ subst (λ (k : ℕ). HasFile files k) (sym same) there | inr before ↦ before ]

-- files that a snapshot adds

-- what is copied is a file that is there, with its shape
abbrev IsSource : ChunkTable → Node → Type 0
IsSource t Dir = Unit {0}
IsSource t (File id) = HasFile t.files id × HasShape t.shapes id

source_stays : (t : ChunkTable) (next from : ℕ) (n : Node) → IsSource t n → IsSource (with_copied_node t next (File from)) n
source_stays t next from Dir is = tt
source_stays t next from (File id) is = (put_key t.files next (handles_of t from) id (inr is.0), by_key (same_or_not id next))
  where
    by_key : (id ≡ next) ⊎ (id ≡ next → ⊥) → HasShape (table.insert t.shapes next (shape_of t from)) id
    by_key (inl same) = (shape_of t from, put_there t.shapes next (shape_of t from) id same)
    by_key (inr other) = let old = is.1 in (old.0, put_other t.shapes next (shape_of t from) id other ∙ old.1)

abbrev AreSources : ChunkTable → List (Path × Node) → Type 0
AreSources t es = AllByRecursion (λ e. IsSource t e.1) es

all_stay : (t : ChunkTable) (next from : ℕ) (es : List (Path × Node)) → AreSources t es → AreSources (with_copied_node t next (File from)) es
all_stay t next from [] all = tt
all_stay t next from (e ∷ es) all = (source_stays t next from e.1 all.0, all_stay t next from es all.1)

later_sources : (t : ChunkTable) (next : ℕ) (n : Node) (es : List (Path × Node)) → AreSources t es → AreSources (with_copied_node t next n) es
later_sources t next Dir es all = all
later_sources t next (File id) es all = all_stay t next id es all

one_told : (t : ChunkTable) (next : ℕ) (n : Node) → IsSource t n → AreTold t.shapes → AreTold (with_copied_node t next n).shapes
one_told t next Dir is h q s at = h q s at
one_told t next (File id) is h q s at =
    let source = is.1 in
    elim (put_cases t.shapes next (shape_of t id) q s at) [
      | inl now ↦ subst (λ (x : Shape). 64 ≤ x.chunk) (sym (shape_is t id source.0 source.1) ∙ now.1) (h id source.0 source.1)
      | inr before ↦ h q s before
    ]

snapshot_told : (t : ChunkTable) (next : ℕ) (es : List (Path × Node)) → AreSources t es → AreTold t.shapes → AreTold (with_copied_nodes t next es).shapes
snapshot_told t next [] sources h = h
snapshot_told t next (e ∷ es) sources h = snapshot_told (with_copied_node t next e.1) (id_after next e.1) es (later_sources t next e.1 es sources.1) (one_told t next e.1 sources.0 h)

one_same : (t u : ChunkTable) (next : ℕ) (n : Node) → IsSource t n → HasShapesOf t u → HasShapesOf (with_copied_node t next n) (with_copied_node u next n)
one_same t u next Dir is h q s has at = h q s has at
one_same t u next (File id) is h q s has at =
    elim (put_split t.shapes next (shape_of t id) q s at) [
      | inl now ↦ put_there u.shapes next (shape_of u id) q now.0 ∙ ap (λ (x : Shape). Some x) (copied ∙ now.1)
      | inr before ↦ put_other u.shapes next (shape_of u id) q before.0 ∙ h q s (before_put t.files next (handles_of t id) q before.0 has) before.1
    ]
  where
    copied : shape_of u id ≡ shape_of t id
    copied = let source = is.1 in shape_is u id source.0 (h id source.0 is.0 source.1) ∙ sym (shape_is t id source.0 source.1)

snapshot_same : (t u : ChunkTable) (next : ℕ) (es : List (Path × Node)) → AreSources t es → HasShapesOf t u → HasShapesOf (with_copied_nodes t next es) (with_copied_nodes u next es)
snapshot_same t u next [] sources h = h
snapshot_same t u next (e ∷ es) sources h =
    snapshot_same (with_copied_node t next e.1) (with_copied_node u next e.1) (id_after next e.1) es (later_sources t next e.1 es sources.1) (one_same t u next e.1 sources.0 h)

-- a copy takes its source's place

pub swapped_shapes : (l : Logged) (handle : ℕ) (o : Option Copy) → (swapped_in l handle o).table.shapes ≡ l.table.shapes
swapped_shapes l handle None = refl
swapped_shapes l handle (Some c) = refl

swapped_there : (l : Logged) (handle : ℕ) (o : Option Copy) (file : ℕ) → ((c : Copy) → o ≡ Some c → HasFile l.table.files c.file) → HasFile (swapped_in l handle o).table.files file → HasFile l.table.files file
swapped_there l handle None file named has = has
swapped_there l handle (Some c) file named has = put_again l.table.files c.file _ file (named c refl) has

-- shapes after a record

-- what is asked of a record
abbrev IsToldDue : Logged → Record → Type 0
IsToldDue j (log.Create client n file shape path) = 64 ≤ (shape_or no_shape shape).chunk
IsToldDue j (log.Snapshot client n from to) = AreSources j.table (copied_entries j.names from to)
IsToldDue j (log.AddChunk file handle) = HasFile j.table.files file.0
IsToldDue j (log.Grant handle version primary members) = (c : Copy) → table.get j.copies handle.0 ≡ Some c → HasFile j.table.files c.file
IsToldDue j (log.FileItem path file shape handles) = ⊥
IsToldDue j other = Unit {0}

told_after : (j : Logged) (r : Record) → IsToldDue j r → AreTold j.table.shapes → AreTold (after_record j r).table.shapes
told_after j (log.Create client n file shape path) due h = λ q s at.
    elim (put_cases j.table.shapes file.0 (shape_or no_shape shape) q s at) [ inl now ↦ subst (λ (x : Shape). 64 ≤ x.chunk) now.1 due | inr before ↦ h q s before ]
told_after j (log.Snapshot client n from to) due h = snapshot_told j.table j.next_file (copied_entries j.names from to) due h
told_after j (log.Expired file) due h = λ q s at. h q s (kept_cases j.table.shapes file.0 q s at)
told_after j (log.Grant handle version primary members) due h =
    subst AreTold (sym (swapped_shapes (record j { table = grant j.table handle.0 version.0 primary.0 members }) handle.0 (table.get j.copies handle.0))) h
told_after j (log.FileItem path file shape handles) due h = absurd due
told_after j other due h = h

granted_same : (l k : Logged) (handle : ℕ) (o p : Option Copy) → ((c : Copy) → o ≡ Some c → HasFile l.table.files c.file) → HasShapesOf l.table k.table → HasShapesOf (swapped_in l handle o).table (swapped_in k handle p).table
granted_same l k handle o p named h q s has at =
    ap (λ (t : Table Shape). table.get t q) (swapped_shapes k handle p) ∙ h q s (swapped_there l handle o q named has) (ap (λ (t : Table Shape). table.get t q) (sym (swapped_shapes l handle o)) ∙ at)

same_after : (l k : Logged) (r : Record) → parts_of l ≡ parts_of k → IsToldDue l r → HasShapesOf l.table k.table → HasShapesOf (after_record l r).table (after_record k r).table
same_after l k (log.Create client n file shape path) same due h = λ q s has at.
    let new : Shape = shape_or no_shape shape in
    elim (put_split l.table.shapes file.0 new q s at) [
      | inl now ↦ put_there k.table.shapes file.0 new q now.0 ∙ ap (λ (x : Shape). Some x) now.1
      | inr before ↦ put_other k.table.shapes file.0 new q before.0 ∙ h q s (before_put l.table.files file.0 [] q before.0 has) before.1
    ]
same_after l k (log.Snapshot client n from to) same due h =
    let es : List (Path × Node) = copied_entries l.names from to in
    subst (λ (p : Parts). HasShapesOf (with_copied_nodes l.table l.next_file es) (with_copied_nodes k.table p.next_file (copied_entries p.names from to))) same (snapshot_same l.table k.table l.next_file es due h)
same_after l k (log.Expired file) same due h = λ q s has at.
    let old = gone_split l.table.shapes file.0 q s at in
    gone_other k.table.shapes file.0 q old.0 ∙ h q s (still q old.0 has) old.1
  where
    still : (q : ℕ) → (q ≡ file.0 → ⊥) → HasFile (table.remove l.table.files file.0) q → HasFile l.table.files q
    still q other has = ap is_some (sym (gone_other l.table.files file.0 q other)) ∙ has
same_after l k (log.AddChunk file handle) same due h = λ q s has at. h q s (put_again l.table.files file.0 _ q due has) at
same_after l k (log.Grant handle version primary members) same due h =
    granted_same (record l { table = grant l.table handle.0 version.0 primary.0 members }) (record k { table = grant k.table handle.0 version.0 primary.0 members }) handle.0 (table.get l.copies handle.0) (table.get k.copies handle.0) due h
same_after l k (log.FileItem path file shape handles) same due h = absurd due
same_after l k other same due h = h

-- what is known of a record of a step

sources_there : (l : Logged) (from to : Path) → HasOneName l → ((file : ℕ) → HasFile l.table.files file → HasShape l.table.shapes file) → AreSources l.table (copied_entries l.names from to)
sources_there l from to one known = copied_nodes (IsSource l.table) l.names from to by_node
  where
    by_node : (p : Path) (n : Node) → node_at l.names p ≡ Some n → IsSource l.table n
    by_node p Dir is = tt
    by_node p (File id) is = let has = one.named.there p id is in (has, known id has)

due_here : (l k : Logged) (r : Record) → IsDue (Unit {0}) l r → AreNames l r → IsShapedLog l k → IsToldDue l r
due_here l k (log.Create client n file shape path) due names h = told_least l.names client n l.next_file file shape path names.due
due_here l k (log.Snapshot client n from to) due names h = sources_there l from to h.base.base.here h.here.files.known
due_here l k (log.AddChunk file handle) due names h = due.1
due_here l k (log.Grant handle version primary members) due names h = λ c is. h.base.base.here.copied handle.0 c is
due_here l k (log.FileItem path file shape handles) due names h = absurd due
due_here l k other due names h = tt

due_there : (l k : Logged) (r : Record) → IsDue (Unit {0}) l r → AreNames l r → IsShapedLog l k → IsToldDue k r
due_there l k (log.Create client n file shape path) due names h = told_least l.names client n l.next_file file shape path names.due
due_there l k (log.Snapshot client n from to) due names h = sources_there k from to h.log.base.base.one_name h.log.shaped.files.known
due_there l k (log.AddChunk file handle) due names h = subst (λ (f : Files). HasFile f file.0) h.base.base.files due.1
due_there l k (log.Grant handle version primary members) due names h = λ c is. h.log.base.base.one_name.copied handle.0 c is
due_there l k (log.FileItem path file shape handles) due names h = absurd due
due_there l k other due names h = tt

-- a checkpoint, read again: it has the shapes of the files that are there

module _ (l : Logged) (known : (file : ℕ) → HasFile l.table.files file → HasShape l.table.shapes file) where
  back : IsReadBack l.table (after_records first_logged (checkpoint_of l))
  back = checkpoint_read l

  checkpoint_told : l.table.files ≡ (after_records first_logged (checkpoint_of l)).table.files → AreTold l.table.shapes → AreTold (after_records first_logged (checkpoint_of l)).table.shapes
  checkpoint_told files told q s at =
      let has = back.keys q s at in
      let its = known q (subst (λ (f : Files). HasFile f q) (sym files) has) in
      let same : shape_of l.table q ≡ s = same_some (shape_of l.table q) s (sym (back.shapes q has) ∙ at) in
      subst (λ (x : Shape). 64 ≤ x.chunk) (sym (shape_is l.table q its.0 its.1) ∙ same) (told q its.0 its.1)

  checkpoint_same : l.table.files ≡ (after_records first_logged (checkpoint_of l)).table.files → HasShapesOf l.table (after_records first_logged (checkpoint_of l)).table
  checkpoint_same files q s has at = back.shapes q (subst (λ (f : Files). HasFile f q) files has) ∙ ap (λ (x : Shape). Some x) (shape_is l.table q s at)

-- shapes that get known are told already

module _ (l : Logged) (f : Shape → Shape) (shapes : Table Shape) (rows : Rows) (moved : AreShapedBy f l.table shapes rows) (told : AreTold l.table.shapes) where
  stays : (q : ℕ) (s : Shape) → table.get l.table.shapes q ≡ Some s → f s ≡ s
  stays q s at = elim (moved.stays s) [ inl same ↦ same | inr none ↦ absurd (let low = told q s at in omega (arith, low, none)) ]

  moved_told : AreTold shapes
  moved_told q s at = let old = moved.back q s at in subst (λ (x : Shape). 64 ≤ x.chunk) (sym (stays q old.0 old.1) ∙ old.2) (told q old.0 old.1)

  moved_same : (k : Logged) → HasShapesOf l.table k.table → HasShapesOf (record l.table { shapes = shapes; chunks = rows }) k.table
  moved_same k h q s has at = let old = moved.back q s at in h q old.0 has old.1 ∙ ap (λ (x : Shape). Some x) (sym (stays q old.0 old.1) ∙ old.2)

-- in each log

pub record IsFoundTold (k : Logged) : Type 0 where
  pub base : IsFoundShapes k
  pub told : AreTold k.table.shapes

pub record IsToldLog (l k : Logged) : Type 0 where
  pub base : IsShapedLog l k
  pub log : IsFoundTold k
  pub told : AreTold l.table.shapes
  pub same : HasShapesOf l.table k.table

first_told : AreTold first_logged.table.shapes
first_told q s at = none_some s (sym (table.get-empty nat_cmp q) ∙ at)

pub told_kept : IsKeptByLog IsFoundTold IsToldLog
told_kept =
    record {
      good = λ l k h. h.log;
      sound = λ l k h. shapes_kept.sound l k h.base;
      new = record { base = shapes_kept.new; log = record { base = shapes_kept.new.log; told = first_told }; told = first_told; same = λ q s has at. at };
      restart = λ k g. record { base = shapes_kept.restart k g.base; log = g; told = g.told; same = λ q s has at. at };
      epochs = λ l k epoch h.
          let base = shapes_kept.epochs l k epoch h.base in
          record { base = base; log = record { base = base.log; told = h.log.told }; told = h.told; same = h.same };
      records = λ l k r same due names h.
          let base = shapes_kept.records l k r same due names h.base in
          record {
            base = base;
            log = record { base = base.log; told = told_after k r (due_there l k r due names h.base) h.log.told };
            told = told_after l r (due_here l k r due names h.base) h.told;
            same = same_after l k r same (due_here l k r due names h.base) h.same;
          };
      checkpoint = λ l k same tree h.
          let base = shapes_kept.checkpoint l k same tree h.base in
          let known = h.base.here.files.known in
          record {
            base = base;
            log = record { base = base.log; told = checkpoint_told l known base.base.base.files h.told };
            told = h.told;
            same = checkpoint_same l known base.base.base.files;
          };
      less = λ l k handles copied h. record { base = shapes_kept.less l k handles copied h.base; log = h.log; told = h.told; same = h.same };
      rows = λ l k f shapes chunks same moved h.
          record {
            base = shapes_kept.rows l k f shapes chunks same moved h.base;
            log = h.log;
            told = moved_told l f shapes chunks moved h.told;
            same = moved_same l f shapes chunks moved h.told k h.same;
          };
    }

-- a checkpoint, read again, has the shape
pub back_shape : (t : ChunkTable) (j : Logged) (file : ℕ) → IsReadBack t j → HasFile j.table.files file → shape_of j.table file ≡ shape_of t file
back_shape t j file back has = shape_is j.table file (shape_of t file) (back.shapes file has)

-- an opening leaves it
pub known_shapes : (usual : Shape) (l : Logged) → IsFoundTold l → (file : ℕ) → HasFile l.table.files file
    → unwrap_or (table.get (map_values (known_shape usual) l.table.shapes) file) no_shape ≡ shape_of l.table file
known_shapes usual l h file has =
    let its = h.base.shaped.files.known file has in
    let same : known_shape usual its.0 ≡ its.0 =
    elim (known_stays usual its.0) [ inl same ↦ same | inr none ↦ absurd (let low = h.told file its.0 its.1 in omega (arith, low, none)) ] in
    ap (λ (o : Option Shape). unwrap_or o no_shape) (mapped_at (known_shape usual) l.table.shapes file its.0 its.1 ∙ ap (λ (x : Shape). Some x) same) ∙ sym (shape_is l.table file its.0 its.1)

pub log_has_the_shapes : LogHasTheShapes
log_has_the_shapes config servers clients w r up file has =
    let kept = (logged_reached IsFoundTold IsToldLog told_kept config servers clients w r up).tied in
    let its = kept.base.here.files.known file has in
    let here = shape_is w.master.logged.table file its.0 its.1 in (
      here ∙ sym (shape_is (state_of w.master.disk).table file its.0 (kept.same file its.0 has its.1)),
      subst (λ (x : Shape). 64 ≤ x.chunk) (sym here) (kept.told file its.0 its.1),
    )
