-- Each file has a shape, which each of its chunks has, also in the log; a copy under way has that of the file that it is for.
use Rattle.std.proofs.Common.{◌≡◌, ◌⊎◌, ℕ, ◌≤◌, ◌<◌, true, false, List, [], ◌∷◌, ◌++◌, map, Option, Some, None, is_some, refl, sym, ap, subst, ◌∙◌, inl, inr, arith}
use Rattle.std.specs.Prelude.{◌==◌, nat_lt, filter, unwrap_or}
use Rattle.std.specs.Ordering.{nat_cmp}
use Rattle.std.specs.FinMap as table
use Rattle.std.proofs.lemmas.Bool.{true≢false}
use Rattle.gfs_types.specs.declared.shape.Shape.{Shape}
use Rattle.gfs_types.specs.Shapes.{shape_or}
use Rattle.gfs_types.specs.Paths.{Path}
use Rattle.log_records.specs.declared.record.Record.{Record}
use Rattle.log_records.specs.declared.record.Record.TheVariants as log
use Rattle.relaxed_file.specs.Names.{Node, Dir, File, id_after, copied_entries}
use Rattle.protocol.specs.Tables.{Table, removed_all, with_at}
use Rattle.protocol.specs.Sending.{file_id, handle_of}
use Rattle.chunk_table.specs.ChunkTable.{ChunkRow, ChunkTable, no_shape, shape_of, shape_in, handles_of, changed_by, row_issued, row_granted, share_all, added_row, copied_row, owned_row, with_owned, grant}
use Rattle.protocol.specs.Logged.{Logged, KeptCall, Copy, first_logged, after_record, after_records, copies_given_up, all_copies_given_up, swapped_in, with_copied_node, with_copied_nodes, checkpoint_of, name_item, node_item, chunk_item, client_item}
use Rattle.laws_base.specs.Laws.{times_in, HaveFilesShapes, ChunksHaveTheirFilesShapes}
use Rattle.laws_base.proofs.Steps.{none_some, count-cons, count-append, same_or_not, put_cases, put_split, put_there, put_other, gone_there, gone_other, kept_cases, removed_cases}
use Rattle.laws_base.proofs.ChunkRows.{Rows, rows_of, OwnedFrom, removed_owned, all_shared_owned, all_copied_owned, swapped_owned, expired_owned}
use Rattle.laws_base.proofs.MasterMoves.{IsDue}
use Rattle.laws_base.proofs.OrderNumbers.{state_of, after-append}
use Rattle.laws_base.proofs.LoggedParts.{Parts, parts_of}
use Rattle.laws_base.proofs.FilesNamed.{Files, HasFile, split_key, put_key}
use Rattle.laws_base.proofs.OneName.{AreCopiesOf, left_copy}
use Rattle.laws_base.proofs.FilesLogged.{IsFoundLog, AreAmong, checkpoint_no_copies}
use Rattle.laws_base.proofs.NamesReached.{IsKeptByLog, AreShapedBy, logged_reached}
use Rattle.laws_base.proofs.Owners.{stands, chunks_at, times_at_least, HasRow, tally_same, tally_other, AreCounted, chunk_row, placed_stands}
use Rattle.laws_base.proofs.CountsLogged.{IsPlacedIn, IsFoundCounts, IsCountedLog, files_below, with_at_most}
use Rattle.laws_base.proofs.CountsKept.{counts_kept, state_due, log_due}

abbrev pub shape_at : Table Shape → ℕ → Shape
shape_at shapes file = unwrap_or (table.get shapes file) no_shape

abbrev pub HasShape : Table Shape → ℕ → Type 0
HasShape shapes file = (shape : Shape) × (table.get shapes file ≡ Some shape)

-- the handle stands in the file that has this list, if any
abbrev StandsIn : ℕ → Option (List ℕ) → Type 0
StandsIn q o = 1 ≤ stands q (unwrap_or o [])

pub stands_somewhere : (files : Files) (file q : ℕ) → 1 ≤ stands q (chunks_at files file) → HasFile files file
stands_somewhere files file q at = by_file (table.get files file) at
  where
    by_file : (o : Option (List ℕ)) → StandsIn q o → is_some o ≡ true
    by_file None none = absurd (let low : 1 ≤ stands q [] = none in omega (arith, low))
    by_file (Some hs) some = refl

-- each file has a shape, which each of its chunks has
pub record AreShaped (files : Files) (shapes : Table Shape) (rows : Rows) : Type 0 where
  pub known : (file : ℕ) → HasFile files file → HasShape shapes file
  pub chunks : (file q : ℕ) (row : ChunkRow) → 1 ≤ stands q (chunks_at files file) → table.get rows q ≡ Some row → row.shape ≡ shape_at shapes file

abbrev pub AreCopiesShaped : Table Copy → Table Shape → Rows → Type 0
AreCopiesShaped copies shapes rows = (handle : ℕ) (c : Copy) (row : ChunkRow) → table.get copies handle ≡ Some c → table.get rows handle ≡ Some row → row.shape ≡ shape_at shapes c.file

pub record IsShaped (l : Logged) : Type 0 where
  pub files : AreShaped l.table.files l.table.shapes (rows_of l)
  pub copies : AreCopiesShaped l.copies l.table.shapes (rows_of l)

-- rows that keep their shapes

-- the row was there before, with the same shape
abbrev pub WasShaped : Rows → ℕ → ChunkRow → Type 0
WasShaped rows q row = (old : ChunkRow) × (table.get rows q ≡ Some old) × (old.shape ≡ row.shape)

abbrev pub KeepsShapes : Rows → Rows → Type 0
KeepsShapes rows more = (q : ℕ) (row : ChunkRow) → table.get more q ≡ Some row → WasShaped rows q row

pub same_keeps : (rows : Rows) → KeepsShapes rows rows
same_keeps rows q row is = (row, is, refl)

pub joined_keeps : (a b c : Rows) → KeepsShapes a b → KeepsShapes b c → KeepsShapes a c
joined_keeps a b c first second q row is =
    let late = second q row is in
    let early = first q late.0 late.1 in
    (early.0, early.1, early.2 ∙ late.2)

-- one row is another, of the same shape
put_keeps : (rows : Rows) (x : ℕ) (old new : ChunkRow) → table.get rows x ≡ Some old → old.shape ≡ new.shape → KeepsShapes rows (table.insert rows x new)
put_keeps rows x old new at same q row is =
    elim (put_cases rows x new q row is) [
      | inl now ↦ (old, ap (λ (n : ℕ). table.get rows n) now.0 ∙ at, same ∙ ap (λ (r : ChunkRow). r.shape) now.1)
      | inr before ↦ (row, before, refl)
    ]

pub changed_keeps : (rows : Rows) (x : ℕ) (change : ChunkRow → ChunkRow) → ((row : ChunkRow) → row.shape ≡ (change row).shape) → KeepsShapes rows (changed_by rows x change (table.get rows x))
changed_keeps rows x change same = by_row (table.get rows x) refl
  where
    by_row : (o : Option ChunkRow) → table.get rows x ≡ o → KeepsShapes rows (changed_by rows x change o)
    by_row None at = same_keeps rows
    by_row (Some old) at = put_keeps rows x old (change old) at (same old)

pub owned_keeps : (rows more : Rows) → OwnedFrom rows more → KeepsShapes rows more
owned_keeps rows more owned q row is = let was = owned q row is in (was.0, was.1, ap (λ (r : ChunkRow). r.shape) was.2)

pub removed_keeps : (rows : Rows) (hs : List ℕ) → KeepsShapes rows (removed_all rows hs)
removed_keeps rows hs = owned_keeps rows (removed_all rows hs) (removed_owned rows hs)

kept_shaped : (files : Files) (shapes : Table Shape) (rows more : Rows) → KeepsShapes rows more → AreShaped files shapes rows → AreShaped files shapes more
kept_shaped files shapes rows more keeps h =
    record {
      known = h.known;
      chunks = λ file q row at is. let old = keeps q row is in sym old.2 ∙ h.chunks file q old.0 at old.1;
    }

kept_copies : (copies few : Table Copy) (shapes : Table Shape) (rows more : Rows) → ((handle : ℕ) (c : Copy) → table.get few handle ≡ Some c → table.get copies handle ≡ Some c) → KeepsShapes rows more
    → AreCopiesShaped copies shapes rows → AreCopiesShaped few shapes more
kept_copies copies few shapes rows more fewer keeps h handle c row is at = let old = keeps handle row at in sym old.2 ∙ h handle c old.0 (fewer handle c is) old.1

-- a file that comes, or goes

put_known : (files : Files) (shapes : Table Shape) (f : ℕ) (hs : List ℕ) (s : Shape) → ((file : ℕ) → HasFile files file → HasShape shapes file) → (file : ℕ) → HasFile (table.insert files f hs) file
    → HasShape (table.insert shapes f s) file
put_known files shapes f hs s known file has = by_key (same_or_not file f)
  where
    by_key : (file ≡ f) ⊎ (file ≡ f → ⊥) → HasShape (table.insert shapes f s) file
    by_key (inl same) = (s, put_there shapes f s file same)
    by_key (inr other) =
        elim (split_key files f hs file has) [
          | inl same ↦ absurd (other same)
          | inr before ↦ let old = known file before in (old.0, put_other shapes f s file other ∙ old.1)
        ]

shape_there : (shapes : Table Shape) (f : ℕ) (s : Shape) (file : ℕ) → file ≡ f → shape_at (table.insert shapes f s) file ≡ s
shape_there shapes f s file same = ap (λ (o : Option Shape). unwrap_or o no_shape) (put_there shapes f s file same)

shape_other : (shapes : Table Shape) (f : ℕ) (s : Shape) (file : ℕ) → (file ≡ f → ⊥) → shape_at (table.insert shapes f s) file ≡ shape_at shapes file
shape_other shapes f s file other = ap (λ (o : Option Shape). unwrap_or o no_shape) (put_other shapes f s file other)

put_shaped : (files : Files) (shapes : Table Shape) (rows : Rows) (f : ℕ) (hs : List ℕ) (s : Shape) → ((q : ℕ) (row : ChunkRow) → 1 ≤ stands q hs → table.get rows q ≡ Some row → row.shape ≡ s)
    → AreShaped files shapes rows → AreShaped (table.insert files f hs) (table.insert shapes f s) rows
put_shaped files shapes rows f hs s its h =
    record { known = put_known files shapes f hs s h.known; chunks = λ file q row at is. by_key file q row at is (same_or_not file f) }
  where
    by_key : (file q : ℕ) (row : ChunkRow) → 1 ≤ stands q (chunks_at (table.insert files f hs) file) → table.get rows q ≡ Some row → (file ≡ f) ⊎ (file ≡ f → ⊥)
        → row.shape ≡ shape_at (table.insert shapes f s) file
    by_key file q row at is (inl same) = its q row (subst (StandsIn q) (put_there files f hs file same) at) is ∙ sym (shape_there shapes f s file same)
    by_key file q row at is (inr other) = h.chunks file q row (subst (StandsIn q) (put_other files f hs file other) at) is ∙ sym (shape_other shapes f s file other)

gone_shaped : (files : Files) (shapes : Table Shape) (rows : Rows) (f : ℕ) → AreShaped files shapes rows → AreShaped (table.remove files f) (table.remove shapes f) rows
gone_shaped files shapes rows f h =
    record { known = λ file has. by_file file has (same_or_not file f); chunks = λ file q row at is. by_key file q row at is (same_or_not file f) }
  where
    by_file : (file : ℕ) → HasFile (table.remove files f) file → (file ≡ f) ⊎ (file ≡ f → ⊥) → HasShape (table.remove shapes f) file
    by_file file has (inl same) = absurd (true≢false (sym has ∙ ap is_some (gone_there files f file same)))
    by_file file has (inr other) = let old = h.known file (sym (ap is_some (gone_other files f file other)) ∙ has) in (old.0, gone_other shapes f file other ∙ old.1)

    by_key : (file q : ℕ) (row : ChunkRow) → 1 ≤ stands q (chunks_at (table.remove files f) file) → table.get rows q ≡ Some row → (file ≡ f) ⊎ (file ≡ f → ⊥)
        → row.shape ≡ shape_at (table.remove shapes f) file
    by_key file q row at is (inl same) = absurd (let none : 1 ≤ stands q [] = subst (StandsIn q) (gone_there files f file same) at in omega (arith, none))
    by_key file q row at is (inr other) =
        h.chunks file q row (subst (StandsIn q) (gone_other files f file other) at) is ∙ sym (ap (λ (o : Option Shape). unwrap_or o no_shape) (gone_other shapes f file other))

-- files that a snapshot adds

snapshot_shaped : (t : ChunkTable) (next : ℕ) (es : List (Path × Node)) → AreShaped t.files t.shapes t.chunks
    → AreShaped (with_copied_nodes t next es).files (with_copied_nodes t next es).shapes (with_copied_nodes t next es).chunks
snapshot_shaped t next [] h = h
snapshot_shaped t next (e ∷ es) h = snapshot_shaped (with_copied_node t next e.1) (id_after next e.1) es (one e.1)
  where
    one : (n : Node) → AreShaped (with_copied_node t next n).files (with_copied_node t next n).shapes (with_copied_node t next n).chunks
    one Dir = h
    one (File id) =
        kept_shaped (table.insert t.files next (handles_of t id)) (table.insert t.shapes next (shape_of t id)) t.chunks (share_all t.chunks (handles_of t id))
        (owned_keeps t.chunks (share_all t.chunks (handles_of t id)) (all_shared_owned t.chunks (handles_of t id)))
        (put_shaped t.files t.shapes t.chunks next (handles_of t id) (shape_of t id) (λ q row at is. h.chunks id q row at is) h)

snapshot_shape : (t : ChunkTable) (next : ℕ) (es : List (Path × Node)) (id : ℕ) → id < next → shape_at (with_copied_nodes t next es).shapes id ≡ shape_at t.shapes id
snapshot_shape t next [] id low = refl
snapshot_shape t next (e ∷ es) id low = snapshot_shape (with_copied_node t next e.1) (id_after next e.1) es id (later e.1) ∙ one e.1
  where
    later : (n : Node) → id < id_after next n
    later Dir = low
    later (File source) = omega (arith, low)

    one : (n : Node) → shape_at (with_copied_node t next n).shapes id ≡ shape_at t.shapes id
    one Dir = refl
    one (File source) = shape_other t.shapes next (shape_of t source) id (λ same. omega (arith, low, same))

-- shapes after a record

-- what the shapes ask of a record
abbrev IsShapeDue : Logged → Record → Type 0
IsShapeDue j (log.Create client n file shape path) = (handle : ℕ) (c : Copy) → table.get j.copies handle ≡ Some c → c.file ≡ file.0 → ⊥
IsShapeDue j (log.Snapshot client n from to) = (handle : ℕ) (c : Copy) → table.get j.copies handle ≡ Some c → c.file < j.next_file
IsShapeDue j (log.AddChunk file handle) = HasFile j.table.files file.0 × (times_in j.table.files handle.0 ≡ 0) × (table.get j.copies handle.0 ≡ None)
IsShapeDue j (log.Grant handle version primary members) = (c : Copy) → table.get j.copies handle.0 ≡ Some c → HasFile j.table.files c.file
IsShapeDue j (log.CopyStart file index source copy copy_version) =
    (times_in j.table.files copy.0 ≡ 0) × HasRow (rows_of j) source.0 × IsPlacedIn j.table.files (record { file = file.0; index = index; source = source.0 })
IsShapeDue j (log.FileItem path file shape handles) = ⊥
IsShapeDue j other = Unit {0}

-- a handle that stands in no file
stands_nowhere : (files : Files) (file q handle : ℕ) → q ≡ handle → times_in files handle ≡ 0 → 1 ≤ stands q (chunks_at files file) → ⊥
stands_nowhere files file q handle same none at =
    let low = times_at_least files file q in
    let its = ap (λ (n : ℕ). times_in files n) same in
    omega (arith, low, its, none, at)

module _ (j : Logged) (h : IsShaped j) where
  created : (file : ℕ) (s : Shape) → ((handle : ℕ) (c : Copy) → table.get j.copies handle ≡ Some c → c.file ≡ file → ⊥)
      → AreShaped (table.insert j.table.files file []) (table.insert j.table.shapes file s) (rows_of j) × AreCopiesShaped j.copies (table.insert j.table.shapes file s) (rows_of j)
  created file s apart = (
    put_shaped j.table.files j.table.shapes (rows_of j) file [] s (λ q row at is. absurd (omega (arith, at))) h.files,
    λ handle c row is at. h.copies handle c row is at ∙ sym (shape_other j.table.shapes file s c.file (apart handle c is)),
  )

  added : (file handle : ℕ) → HasFile j.table.files file → times_in j.table.files handle ≡ 0 → table.get j.copies handle ≡ None
      → AreShaped (table.insert j.table.files file (chunks_at j.table.files file ++ handle ∷ [])) j.table.shapes (table.insert (rows_of j) handle (added_row j.table file))
      × AreCopiesShaped j.copies j.table.shapes (table.insert (rows_of j) handle (added_row j.table file))
  added file handle there none free = (record { known = known; chunks = chunks }, copies)
    where
      new : ChunkRow
      new = added_row j.table file

      longer : List ℕ
      longer = chunks_at j.table.files file ++ handle ∷ []

      known : (id : ℕ) → HasFile (table.insert j.table.files file longer) id → HasShape j.table.shapes id
      known id has =
          elim (split_key j.table.files file longer id has) [
            | inl same ↦ subst (λ (n : ℕ). HasShape j.table.shapes n) (sym same) (h.files.known file there)
            | inr before ↦ h.files.known id before
          ]

      -- a chunk that is not the new one was there before
      before_at : (id q : ℕ) → (q ≡ handle → ⊥) → 1 ≤ stands q (chunks_at (table.insert j.table.files file longer) id) → (id ≡ file) ⊎ (id ≡ file → ⊥) → 1 ≤ stands q (chunks_at j.table.files id)
      before_at id q other at (inl same) =
          let now : 1 ≤ stands q longer = subst (StandsIn q) (put_there j.table.files file longer id same) at in
          let whole = count-append (λ x. x == q) (chunks_at j.table.files file) (handle ∷ []) in
          let last = count-cons (λ x. x == q) handle [] in
          let no_one = tally_other handle q other in
          subst (λ (n : ℕ). 1 ≤ stands q (chunks_at j.table.files n)) (sym same) (omega (arith, now, whole, last, no_one))
      before_at id q other at (inr apart) = subst (StandsIn q) (put_other j.table.files file longer id apart) at

      new_at : (id q : ℕ) (row : ChunkRow) → q ≡ handle → new ≡ row → 1 ≤ stands q (chunks_at (table.insert j.table.files file longer) id) → (id ≡ file) ⊎ (id ≡ file → ⊥)
          → row.shape ≡ shape_at j.table.shapes id
      new_at id q row same is at (inl here) = sym (ap (λ (r : ChunkRow). r.shape) is) ∙ ap (λ (n : ℕ). shape_at j.table.shapes n) (sym here)
      new_at id q row same is at (inr apart) = absurd (stands_nowhere j.table.files id q handle same none (subst (StandsIn q) (put_other j.table.files file longer id apart) at))

      chunks : (id q : ℕ) (row : ChunkRow) → 1 ≤ stands q (chunks_at (table.insert j.table.files file longer) id) → table.get (table.insert (rows_of j) handle new) q ≡ Some row
          → row.shape ≡ shape_at j.table.shapes id
      chunks id q row at is =
          elim (put_split (rows_of j) handle new q row is) [
            | inl now ↦ new_at id q row now.0 now.1 at (same_or_not id file)
            | inr before ↦ h.files.chunks id q row (before_at id q before.0 at (same_or_not id file)) before.1
          ]

      copies : AreCopiesShaped j.copies j.table.shapes (table.insert (rows_of j) handle new)
      copies copy c row is at =
          elim (put_cases (rows_of j) handle new copy row at) [
            | inl now ↦ none_some c (sym free ∙ ap (λ (n : ℕ). table.get j.copies n) (sym now.0) ∙ is)
            | inr before ↦ h.copies copy c row is before
          ]

  -- a copy takes its source's place, and has the shape of the file
  swapped : (rows : Rows) (handle : ℕ) (c : Copy) → KeepsShapes (rows_of j) rows → table.get j.copies handle ≡ Some c → HasFile j.table.files c.file
      → AreShaped (table.insert j.table.files c.file (with_at (chunks_at j.table.files c.file) c.index handle)) j.table.shapes rows
  swapped rows handle c keeps under_way there = record { known = known; chunks = λ id q row at is. let old = keeps q row is in sym old.2 ∙ by_key id q old.0 at old.1 (same_or_not id c.file) }
    where
      replaced : List ℕ
      replaced = with_at (chunks_at j.table.files c.file) c.index handle

      known : (id : ℕ) → HasFile (table.insert j.table.files c.file replaced) id → HasShape j.table.shapes id
      known id has =
          elim (split_key j.table.files c.file replaced id has) [
            | inl same ↦ subst (λ (n : ℕ). HasShape j.table.shapes n) (sym same) (h.files.known c.file there)
            | inr before ↦ h.files.known id before
          ]

      its : (q : ℕ) (old : ChunkRow) → 1 ≤ stands q replaced → table.get (rows_of j) q ≡ Some old → (q ≡ handle) ⊎ (q ≡ handle → ⊥) → old.shape ≡ shape_at j.table.shapes c.file
      its q old at is (inl same) = h.copies handle c old under_way (ap (λ (n : ℕ). table.get (rows_of j) n) (sym same) ∙ is)
      its q old at is (inr other) = let most = with_at_most (chunks_at j.table.files c.file) c.index handle q other in h.files.chunks c.file q old (omega (arith, most, at)) is

      by_key : (id q : ℕ) (old : ChunkRow) → 1 ≤ stands q (chunks_at (table.insert j.table.files c.file replaced) id) → table.get (rows_of j) q ≡ Some old → (id ≡ c.file) ⊎ (id ≡ c.file → ⊥)
          → old.shape ≡ shape_at j.table.shapes id
      by_key id q old at is (inl same) =
          its q old (subst (StandsIn q) (put_there j.table.files c.file replaced id same) at) is (same_or_not q handle) ∙ ap (λ (n : ℕ). shape_at j.table.shapes n) (sym same)
      by_key id q old at is (inr apart) = h.files.chunks id q old (subst (StandsIn q) (put_other j.table.files c.file replaced id apart) at) is

  granted : (handle version primary : ℕ) (members : List ℕ) (o : Option Copy) → table.get j.copies handle ≡ o → ((c : Copy) → o ≡ Some c → HasFile j.table.files c.file)
      → IsShaped (swapped_in (record j { table = grant j.table handle version primary members }) handle o)
  granted handle version primary members o is there = by_copy o is there
    where
      rows : Rows
      rows = changed_by (rows_of j) handle (row_granted version primary members) (table.get (rows_of j) handle)

      first : KeepsShapes (rows_of j) rows
      first = changed_keeps (rows_of j) handle (row_granted version primary members) (λ row. refl)

      by_copy : (p : Option Copy) → table.get j.copies handle ≡ p → ((c : Copy) → p ≡ Some c → HasFile j.table.files c.file)
          → IsShaped (swapped_in (record j { table = grant j.table handle version primary members }) handle p)
      by_copy None none named =
          record {
            files = kept_shaped j.table.files j.table.shapes (rows_of j) rows first h.files;
            copies = kept_copies j.copies j.copies j.table.shapes (rows_of j) rows (λ q c at. at) first h.copies;
          }
      by_copy (Some c) some named =
          let one : Logged = record j { table = grant j.table handle version primary members } in
          let after : Rows = rows_of (swapped_in one handle (Some c)) in
          let keeps : KeepsShapes (rows_of j) after = joined_keeps (rows_of j) rows after first (owned_keeps rows after (swapped_owned one handle (Some c))) in
          record {
            files = swapped after handle c keeps some (named c refl);
            copies = kept_copies j.copies (table.remove j.copies handle) j.table.shapes (rows_of j) after (λ q d at. kept_cases j.copies handle q d at) keeps h.copies;
          }

  copied : (file index source copy version : ℕ) → times_in j.table.files copy ≡ 0 → HasRow (rows_of j) source → IsPlacedIn j.table.files (record { file = file; index = index; source = source })
      → AreShaped j.table.files j.table.shapes (table.insert (rows_of j) copy (copied_row j.table source version))
      × AreCopiesShaped (table.insert j.copies copy (record { file = file; index = index; source = source })) j.table.shapes (table.insert (rows_of j) copy (copied_row j.table source version))
  copied file index source copy version none has placed = (record { known = h.files.known; chunks = chunks }, copies)
    where
      new : ChunkRow
      new = copied_row j.table source version

      under_way : Copy
      under_way = record { file = file; index = index; source = source }

      chunks : (id q : ℕ) (row : ChunkRow) → 1 ≤ stands q (chunks_at j.table.files id) → table.get (table.insert (rows_of j) copy new) q ≡ Some row → row.shape ≡ shape_at j.table.shapes id
      chunks id q row at is =
          elim (put_cases (rows_of j) copy new q row is) [
            | inl now ↦ absurd (stands_nowhere j.table.files id q copy now.0 none at)
            | inr before ↦ h.files.chunks id q row at before
          ]

      its_shape : new.shape ≡ shape_at j.table.shapes file
      its_shape = ap shape_in has.1 ∙ h.files.chunks file source has.0 (placed_stands (chunks_at j.table.files file) index source placed) has.1

      copies : AreCopiesShaped (table.insert j.copies copy under_way) j.table.shapes (table.insert (rows_of j) copy new)
      copies handle c row is at =
          elim (put_split (rows_of j) copy new handle row at) [
            | inl now ↦ elim (put_split j.copies copy under_way handle c is) [
              | inl mine ↦ sym (ap (λ (r : ChunkRow). r.shape) now.1) ∙ its_shape ∙ ap (λ (x : Copy). shape_at j.table.shapes x.file) mine.1
              | inr older ↦ absurd (older.0 now.0)
            ]
            | inr before ↦ elim (put_split j.copies copy under_way handle c is) [
              | inl mine ↦ absurd (before.0 mine.0)
              | inr older ↦ h.copies handle c row older.1 before.1
            ]
          ]

shaped_after : (j : Logged) (r : Record) → IsShapeDue j r → IsShaped j → IsShaped (after_record j r)
shaped_after j (log.Create client n file shape path) due h = let new = created j h file.0 (shape_or no_shape shape) due in record { files = new.0; copies = new.1 }
shaped_after j (log.Snapshot client n from to) due h =
    let es : List (Path × Node) = copied_entries j.names from to in
    record {
      files = snapshot_shaped j.table j.next_file es h.files;
      copies = λ handle c row is at.
          let old = owned_keeps j.table.chunks (with_copied_nodes j.table j.next_file es).chunks (all_copied_owned j.table j.next_file es) handle row at in
          sym old.2 ∙ h.copies handle c old.0 is old.1 ∙ sym (snapshot_shape j.table j.next_file es c.file (due handle c is));
    }
shaped_after j (log.Expired file) due h =
    let left : Rows = rows_of (after_record j (log.Expired file)) in
    let keeps : KeepsShapes (rows_of j) left = owned_keeps (rows_of j) left (expired_owned j file) in
    record {
      files = gone_shaped j.table.files j.table.shapes left file.0 (kept_shaped j.table.files j.table.shapes (rows_of j) left keeps h.files);
      copies = λ handle c row is at.
          let before = left_copy j file.0 handle c is in
          let old = keeps handle row at in
          sym old.2 ∙ h.copies handle c old.0 before.1 old.1 ∙ sym (ap (λ (o : Option Shape). unwrap_or o no_shape) (gone_other j.table.shapes file.0 c.file before.0));
    }
shaped_after j (log.AddChunk file handle) due h = let new = added j h file.0 handle.0 due.0 due.1 due.2 in record { files = new.0; copies = new.1 }
shaped_after j (log.Issue handle version) due h =
    let rows : Rows = changed_by (rows_of j) handle.0 (row_issued version.0) (table.get (rows_of j) handle.0) in
    let keeps : KeepsShapes (rows_of j) rows = changed_keeps (rows_of j) handle.0 (row_issued version.0) (λ row. refl) in
    record {
      files = kept_shaped j.table.files j.table.shapes (rows_of j) rows keeps h.files;
      copies = kept_copies j.copies j.copies j.table.shapes (rows_of j) rows (λ q c at. at) keeps h.copies;
    }
shaped_after j (log.Grant handle version primary members) due h = granted j h handle.0 version.0 primary.0 members (table.get j.copies handle.0) refl due
shaped_after j (log.CopyStart file index source copy copy_version) due h = let new = copied j h file.0 index source.0 copy.0 copy_version.0 due.0 due.1 due.2 in record { files = new.0; copies = new.1 }
shaped_after j (log.FileItem path file shape handles) due h = absurd due
shaped_after j (log.ChunkItem handle granted issued primary members) due h =
    let change : ChunkRow → ChunkRow = λ row. record row { granted = granted.0; issued = issued.0; primary = primary.0; members = members } in
    let rows : Rows = changed_by (rows_of j) handle.0 change (table.get (rows_of j) handle.0) in
    let keeps : KeepsShapes (rows_of j) rows = changed_keeps (rows_of j) handle.0 change (λ row. refl) in
    record {
      files = kept_shaped j.table.files j.table.shapes (rows_of j) rows keeps h.files;
      copies = kept_copies j.copies j.copies j.table.shapes (rows_of j) rows (λ q c at. at) keeps h.copies;
    }
shaped_after j other due h = record { files = h.files; copies = h.copies }

-- what records ask, in the state and in the log

unused : (k : Logged) (copies : Table Copy) → IsFoundLog k → AreAmong copies k.copies → (handle : ℕ) → handle ≡ k.next_handle → table.get copies handle ≡ None
unused k copies found among handle last = by_copy (table.get copies handle) refl
  where
    by_copy : (o : Option Copy) → table.get copies handle ≡ o → o ≡ None
    by_copy None is = refl
    by_copy (Some c) is = absurd (let low = found.numbered handle c (among handle c is) in omega (arith, low, last))

due_here : (l k : Logged) (r : Record) → parts_of l ≡ parts_of k → IsDue (Unit {0}) l r → IsCountedLog l k → IsShapeDue l r
due_here l k (log.Create client n file shape path) same due h = λ handle c is at. let low = files_below l h.base.here c.file (h.base.here.copied handle c is) in omega (arith, low, due, at)
due_here l k (log.Snapshot client n from to) same due h = λ handle c is. files_below l h.base.here c.file (h.base.here.copied handle c is)
due_here l k (log.AddChunk file handle) same due h =
    (due.1, state_due l k (log.AddChunk file handle) same due h, unused k l.copies h.base.log h.base.among handle.0 (due.0 ∙ ap (λ (p : Parts). p.next_handle) same))
due_here l k (log.Grant handle version primary members) same due h = λ c is. h.base.here.copied handle.0 c is
due_here l k (log.CopyStart file index source copy copy_version) same due h =
    (state_due l k (log.CopyStart file index source copy copy_version) same due h, chunk_row l.table file.0 source.0 h.counted (placed_stands (handles_of l.table file.0) index source.0 due.2), due.2)
due_here l k (log.FileItem path file shape handles) same due h = absurd due
due_here l k other same due h = tt

due_there : (l k : Logged) (r : Record) → parts_of l ≡ parts_of k → IsDue (Unit {0}) l r → IsCountedLog l k → IsShapeDue k r
due_there l k (log.Create client n file shape path) same due h = λ handle c is at.
    let low = files_below k h.log.base.one_name c.file (h.log.base.one_name.copied handle c is) in
    let next = ap (λ (p : Parts). p.next_file) same in
    omega (arith, low, due, next, at)
due_there l k (log.Snapshot client n from to) same due h = λ handle c is. files_below k h.log.base.one_name c.file (h.log.base.one_name.copied handle c is)
due_there l k (log.AddChunk file handle) same due h = (
  subst (λ (f : Files). HasFile f file.0) h.base.files due.1,
  log_due l k (log.AddChunk file handle) same due h,
  unused k k.copies h.log.base (λ q c is. is) handle.0 (due.0 ∙ ap (λ (p : Parts). p.next_handle) same),
)
due_there l k (log.Grant handle version primary members) same due h = λ c is. h.log.base.one_name.copied handle.0 c is
due_there l k (log.CopyStart file index source copy copy_version) same due h =
    let placed = subst (λ (f : Files). IsPlacedIn f (record { file = file.0; index = index; source = source.0 })) h.base.files due.2 in
    (log_due l k (log.CopyStart file index source copy copy_version) same due h, chunk_row k.table file.0 source.0 h.log.counted (placed_stands (handles_of k.table file.0) index source.0 placed), placed)
due_there l k (log.FileItem path file shape handles) same due h = absurd due
due_there l k other same due h = tt

-- a checkpoint, read again

-- What is read so far: files of the table with their chunks and shapes, and rows of these chunks.
pub record IsReadBack (t : ChunkTable) (j : Logged) : Type 0 where
  pub lists : (file : ℕ) (hs : List ℕ) → table.get j.table.files file ≡ Some hs → hs ≡ handles_of t file
  pub shapes : (file : ℕ) → HasFile j.table.files file → table.get j.table.shapes file ≡ Some (shape_of t file)
  pub keys : (file : ℕ) (s : Shape) → table.get j.table.shapes file ≡ Some s → HasFile j.table.files file
  pub rows : (q : ℕ) (row : ChunkRow) → table.get (rows_of j) q ≡ Some row → (file : ℕ) × (1 ≤ stands q (handles_of t file)) × (row.shape ≡ shape_of t file)

-- a row of a file that is put was there before, or is of this file
owned_cases : (shape : Shape) (rows : Rows) (hs : List ℕ) (q : ℕ) (row : ChunkRow) → table.get (with_owned shape rows hs) q ≡ Some row
    → WasShaped rows q row ⊎ ((1 ≤ stands q hs) × (row.shape ≡ shape))
owned_cases shape rows [] q row is = inl (row, is, refl)
owned_cases shape rows (x ∷ xs) q row is =
    elim (owned_cases shape (table.insert rows x (owned_row shape (table.get rows x))) xs q row is) [
      | inl was ↦ elim (put_cases rows x (owned_row shape (table.get rows x)) q was.0 was.1) [
        | inl now ↦ by_row was.0 was.2 now.0 (table.get rows x) refl now.1
        | inr before ↦ inl (was.0, before, was.2)
      ]
      | inr its ↦ let more = its.0 in let whole = count-cons (λ h. h == q) x xs in inr (omega (arith, whole, more), its.1)
    ]
  where
    here : q ≡ x → 1 ≤ stands q (x ∷ xs)
    here same = let whole = count-cons (λ h. h == q) x xs in let one = tally_same x q same in omega (arith, whole, one)

    by_row : (later : ChunkRow) → later.shape ≡ row.shape → q ≡ x → (o : Option ChunkRow) → table.get rows x ≡ o → owned_row shape o ≡ later
        → WasShaped rows q row ⊎ ((1 ≤ stands q (x ∷ xs)) × (row.shape ≡ shape))
    by_row later same key None none new = inr (here key, sym same ∙ sym (ap (λ (r : ChunkRow). r.shape) new))
    by_row later same key (Some old) some new = inl (old, ap (λ (n : ℕ). table.get rows n) key ∙ some, ap (λ (r : ChunkRow). r.shape) new ∙ same)

file_read : (t : ChunkTable) (j : Logged) (p : Path) (id : ℕ) → IsReadBack t j → IsReadBack t (after_record j (node_item t p (File id)))
file_read t j p id h =
    record {
      lists = λ file hs is.
          elim (put_cases j.table.files id (handles_of t id) file hs is) [
            | inl now ↦ sym now.1 ∙ ap (λ (n : ℕ). handles_of t n) (sym now.0)
            | inr before ↦ h.lists file hs before
          ];
      shapes = λ file has. its_shape file has (same_or_not file id);
      keys = λ file s is.
          put_key j.table.files id (handles_of t id) file
          (elim (put_cases j.table.shapes id (shape_of t id) file s is) [ inl now ↦ inl now.0 | inr before ↦ inr (h.keys file s before) ]);
      rows = λ q row is.
          elim (owned_cases (shape_of t id) (rows_of j) (handles_of t id) q row is) [
            | inl was ↦ let old = h.rows q was.0 was.1 in (old.0, old.1, sym was.2 ∙ old.2)
            | inr its ↦ (id, its.0, its.1)
          ];
    }
  where
    its_shape : (file : ℕ) → HasFile (table.insert j.table.files id (handles_of t id)) file → (file ≡ id) ⊎ (file ≡ id → ⊥)
        → table.get (table.insert j.table.shapes id (shape_of t id)) file ≡ Some (shape_of t file)
    its_shape file has (inl same) = put_there j.table.shapes id (shape_of t id) file same ∙ ap (λ (n : ℕ). Some (shape_of t n)) (sym same)
    its_shape file has (inr other) =
        elim (split_key j.table.files id (handles_of t id) file has) [
          | inl same ↦ absurd (other same)
          | inr before ↦ put_other j.table.shapes id (shape_of t id) file other ∙ h.shapes file before
        ]

items_read : (t : ChunkTable) (es : List (Path × Node)) (j : Logged) → IsReadBack t j → IsReadBack t (after_records j (map (name_item t) es))
items_read t [] j h = h
items_read t (e ∷ es) j h = items_read t es (after_record j (name_item t e)) (one e.1)
  where
    one : (n : Node) → IsReadBack t (after_record j (node_item t e.0 n))
    one Dir = record { lists = h.lists; shapes = h.shapes; keys = h.keys; rows = h.rows }
    one (File id) = file_read t j e.0 id h

chunks_read : (t : ChunkTable) (es : List (ℕ × ChunkRow)) (j : Logged) → IsReadBack t j → IsReadBack t (after_records j (map chunk_item es))
chunks_read t [] j h = h
chunks_read t (e ∷ es) j h =
    chunks_read t es (after_record j (chunk_item e))
    (record {
      lists = h.lists;
      shapes = h.shapes;
      keys = h.keys;
      rows = λ q row is.
          let was = changed_keeps (rows_of j) e.0 (λ r. record r { granted = e.1.granted; issued = e.1.issued; primary = e.1.primary; members = e.1.members }) (λ r. refl) q row is in
          let old = h.rows q was.0 was.1 in
          (old.0, old.1, sym was.2 ∙ old.2);
    })

clients_read : (t : ChunkTable) (es : List (ℕ × KeptCall)) (j : Logged) → IsReadBack t j → IsReadBack t (after_records j (map client_item es))
clients_read t [] j h = h
clients_read t (e ∷ es) j h = clients_read t es (after_record j (client_item e)) (record { lists = h.lists; shapes = h.shapes; keys = h.keys; rows = h.rows })

pub checkpoint_read : (l : Logged) → IsReadBack l.table (after_records first_logged (checkpoint_of l))
checkpoint_read l =
    let first : Logged = after_record first_logged (log.Counters (file_id l.next_file) (handle_of l.next_handle) l.epoch) in
    let names : List Record = map (name_item l.table) (table.entries l.names) in
    let rows : List (ℕ × ChunkRow) = filter (λ e. nat_lt 0 e.1.references) (table.entries l.table.chunks) in
    let clients : List (ℕ × KeptCall) = table.entries l.kept in
    let one : Logged = after_records first names in
    let two : Logged = after_records one (map chunk_item rows) in
    let none : IsReadBack l.table first =
    record {
      lists = λ file hs is. none_some hs (sym (table.get-empty nat_cmp file) ∙ is);
      shapes = λ file has. absurd (true≢false (sym has ∙ ap is_some (table.get-empty nat_cmp file)));
      keys = λ file s is. none_some s (sym (table.get-empty nat_cmp file) ∙ is);
      rows = λ q row is. none_some row (sym (table.get-empty nat_cmp q) ∙ is);
    } in
    let read : IsReadBack l.table (after_records two (map client_item clients)) = clients_read l.table clients two (chunks_read l.table rows one (items_read l.table (table.entries l.names) first none)) in
    subst (λ (j : Logged). IsReadBack l.table j)
    (sym (after-append first (names ++ map chunk_item rows) (map client_item clients) ∙ ap (λ (j : Logged). after_records j (map client_item clients)) (after-append first names (map chunk_item rows)))) read

-- A chunk of two files has the shape of both, so that it may be read of either.
checkpoint_shaped : (l : Logged) → AreCounted l.table → IsShaped l → IsShaped (after_records first_logged (checkpoint_of l))
checkpoint_shaped l counted h =
    record {
      files = record { known = λ file has. (shape_of l.table file, back.shapes file has); chunks = chunks };
      copies = λ handle c row is at. none_some c (sym (checkpoint_no_copies l handle) ∙ is);
    }
  where
    j : Logged
    j = after_records first_logged (checkpoint_of l)

    back : IsReadBack l.table j
    back = checkpoint_read l

    stood : (file q : ℕ) (o : Option (List ℕ)) → table.get j.table.files file ≡ o → StandsIn q o → 1 ≤ stands q (handles_of l.table file)
    stood file q None is at = absurd (let low : 1 ≤ stands q [] = at in omega (arith, low))
    stood file q (Some hs) is at = subst (λ (xs : List ℕ). 1 ≤ stands q xs) (back.lists file hs is) at

    chunks : (file q : ℕ) (row : ChunkRow) → 1 ≤ stands q (chunks_at j.table.files file) → table.get (rows_of j) q ≡ Some row → row.shape ≡ shape_at j.table.shapes file
    chunks file q row at is =
        let its = stood file q (table.get j.table.files file) refl at in
        let owner = back.rows q row is in
        let old = chunk_row l.table file q counted its in
        owner.2 ∙ sym (h.files.chunks owner.0 q old.0 owner.1 old.1) ∙ h.files.chunks file q old.0 its old.1
        ∙ sym (ap (λ (o : Option Shape). unwrap_or o no_shape) (back.shapes file (stands_somewhere j.table.files file q at)))

-- copies are given up, and shapes get known

less_shaped : (l : Logged) (handles : List ℕ) → IsShaped l → IsShaped (copies_given_up l handles)
less_shaped l handles h =
    record {
      files = kept_shaped l.table.files l.table.shapes (rows_of l) (removed_all (rows_of l) handles) (removed_keeps (rows_of l) handles) h.files;
      copies = kept_copies l.copies (removed_all l.copies handles) l.table.shapes (rows_of l) (removed_all (rows_of l) handles) (λ handle c is. removed_cases l.copies handles handle c is) (removed_keeps (rows_of l) handles) h.copies;
    }

module _ (l : Logged) (f : Shape → Shape) (shapes : Table Shape) (rows : Rows) (moved : AreShapedBy f l.table shapes rows) (named : AreCopiesOf l.copies l.table.files) (h : IsShaped l) where
  -- a row of the shape that a file had has the one that it has now
  moved_shape : (file q : ℕ) (row : ChunkRow) → HasFile l.table.files file → table.get rows q ≡ Some row
      → ((old : ChunkRow) → table.get (rows_of l) q ≡ Some old → old.shape ≡ shape_at l.table.shapes file)
      → row.shape ≡ shape_at shapes file
  moved_shape file q row has is had =
      let old = moved.rows q row is in
      let s = h.files.known file has in
      sym old.2 ∙ ap f (had old.0 old.1 ∙ ap (λ (o : Option Shape). unwrap_or o no_shape) s.1) ∙ sym (ap (λ (o : Option Shape). unwrap_or o no_shape) (moved.files file s.0 s.1))

  known_shaped : IsShaped (record l { table = record l.table { shapes = shapes; chunks = rows } })
  known_shaped =
      record {
        files = record {
          known = λ file has. let s = h.files.known file has in (f s.0, moved.files file s.0 s.1);
          chunks = λ file q row at is. moved_shape file q row (stands_somewhere l.table.files file q at) is (λ old was. h.files.chunks file q old at was);
        };
        copies = λ handle c row is at. moved_shape c.file handle row (named handle c is) at (λ old was. h.copies handle c old is was);
      }

-- in each log

pub record IsFoundShapes (k : Logged) : Type 0 where
  pub base : IsFoundCounts k
  pub shaped : IsShaped k

pub record IsShapedLog (l k : Logged) : Type 0 where
  pub base : IsCountedLog l k
  pub log : IsFoundShapes k
  pub here : IsShaped l

first_shaped : IsShaped first_logged
first_shaped =
    record {
      files = record {
        known = λ file has. absurd (true≢false (sym has ∙ ap is_some (table.get-empty nat_cmp file)));
        chunks = λ file q row at is. none_some row (sym (table.get-empty nat_cmp q) ∙ is);
      };
      copies = λ handle c row is at. none_some c (sym (table.get-empty nat_cmp handle) ∙ is);
    }

pub shapes_kept : IsKeptByLog IsFoundShapes IsShapedLog
shapes_kept =
    record {
      good = λ l k h. h.log;
      sound = λ l k h. counts_kept.sound l k h.base;
      new = record { base = counts_kept.new; log = record { base = counts_kept.new.log; shaped = first_shaped }; here = first_shaped };
      restart = λ k g. record { base = counts_kept.restart k g.base; log = g; here = less_shaped k (table.keys k.copies) g.shaped };
      epochs = λ l k epoch h.
          let base = counts_kept.epochs l k epoch h.base in
          record {
            base = base;
            log = record { base = base.log; shaped = record { files = h.log.shaped.files; copies = h.log.shaped.copies } };
            here = record { files = h.here.files; copies = h.here.copies };
          };
      records = λ l k r same due names h.
          let base = counts_kept.records l k r same due names h.base in
          record {
            base = base;
            log = record { base = base.log; shaped = shaped_after k r (due_there l k r same due h.base) h.log.shaped };
            here = shaped_after l r (due_here l k r same due h.base) h.here;
          };
      checkpoint = λ l k same tree h.
          let base = counts_kept.checkpoint l k same tree h.base in
          record { base = base; log = record { base = base.log; shaped = checkpoint_shaped l h.base.counted h.here }; here = less_shaped l (table.keys l.copies) h.here };
      less = λ l k handles copied h. record { base = counts_kept.less l k handles copied h.base; log = h.log; here = less_shaped l handles h.here };
      rows = λ l k f shapes chunks same moved h.
          record { base = counts_kept.rows l k f shapes chunks same moved h.base; log = h.log; here = known_shaped l f shapes chunks moved h.base.base.here.copied h.here };
    }

told : (l : Logged) → IsShaped l → HaveFilesShapes l
told l h =
    record {
      known = λ file has. ap is_some (h.files.known file has).1;
      chunks = λ file index handle row at is. h.files.chunks file handle row (placed_stands (handles_of l.table file) index handle at) is;
      copies = h.copies;
    }

pub chunks_have_their_files_shapes : ChunksHaveTheirFilesShapes
chunks_have_their_files_shapes config servers clients w r up =
    let kept = (logged_reached IsFoundShapes IsShapedLog shapes_kept config servers clients w r up).tied in
    let found : Logged = state_of w.master.disk in
    (told w.master.logged kept.here, told (all_copies_given_up found) (less_shaped found (table.keys found.copies) kept.log.shaped))
