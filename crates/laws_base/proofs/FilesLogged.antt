-- The log has the files of the state, with their chunks. It may have copies too that the state gave up: these have no row in the state.
use Rattle.std.proofs.Common.{◌≡◌, ◌⊎◌, ℕ, ◌+◌, ◌<◌, Bool, true, false, cond, List, [], ◌∷◌, ◌++◌, map, Option, Some, None, is_some, refl, sym, ap, subst, ◌∙◌, inl, inr, arith}
use Rattle.std.specs.Prelude.{◌==◌, ◌||◌, filter, option_map, unwrap_or}
use Rattle.std.specs.List.{list_any}
use Rattle.std.specs.Ordering.{nat_cmp, eq_by_cmp}
use Rattle.std.specs.Cmp.{nat_cmp_total, unsigned_tied}
use Rattle.std.proofs.Math.Nat.{le-max_left, le-max_right}
use Rattle.std.proofs.lemmas.Bool.{true≢false, eqb-true}
use Rattle.std.specs.FinMap as table
use Rattle.std.specs.FinMap.Entries.{find}
use Rattle.log_records.specs.declared.record.Record.{Record}
use Rattle.log_records.specs.declared.record.Record.TheVariants as log
use Rattle.gfs_types.specs.Paths.{Path}
use Rattle.relaxed_file.specs.Names.{Node, Dir, File, id_after, copied_entries}
use Rattle.relaxed_file.proofs.NamesTree.{Tree, HasAt, found_at, entry_is}
use Rattle.protocol.specs.Tables.{Table, removed_all}
use Rattle.protocol.specs.Sending.{file_id, handle_of}
use Rattle.chunk_table.specs.ChunkTable.{ChunkRow, ChunkTable, handles_of, changed_by, row_granted, grant, swap, added_row, copied_row}
use Rattle.protocol.specs.Logged.{Logged, Copy, first_logged, after_record, after_records, copies_for_file, copies_given_up, all_copies_given_up, swapped_in, with_copied_node, with_copied_nodes, checkpoint_of, name_item, node_item}
use Rattle.laws_base.proofs.Steps.{none_some, same_some, put_cases, put_split, put_there, put_other, gone_split, gone_other, same_or_not, kept_cases, removed_cases, now_gone}
use Rattle.laws_base.proofs.Entries.{AllOf, all_found, IsFound}
use Rattle.laws_base.proofs.MasterMoves.{IsDue, AreNames, removed_other}
use Rattle.laws_base.proofs.CopiesUnderWay.{copy_listed, no_copies}
use Rattle.laws_base.proofs.ChunkRows.{Rows, rows_of, From, all_copied_from, swapped_from, expired_from}
use Rattle.laws_base.proofs.LoggedParts.{Parts, parts_of}
use Rattle.laws_base.proofs.FilesNamed.{Files}
use Rattle.laws_base.proofs.OneName.{HasOneName, Kept, records_keep, less_keep, first_one_name, checkpoint_keep, checkpoint_kept, items_named, items_copies, left_copy}
use Rattle.laws_base.proofs.NamesReached.{AreSameButEnds, without_end}
use Rattle.gfs_types.specs.declared.shape.Shape.{Shape}

-- handles of copies are below the next one
abbrev pub AreNumbered : Logged → Type 0
AreNumbered l = (handle : ℕ) (c : Copy) → table.get l.copies handle ≡ Some c → handle < l.next_handle

-- what a log says
pub record IsFoundLog (k : Logged) : Type 0 where
  pub one_name : HasOneName k
  pub numbered : AreNumbered k

-- The log's copies are the state's and others.
abbrev pub AreAmong : Table Copy → Table Copy → Type 0
AreAmong few many = (handle : ℕ) (c : Copy) → table.get few handle ≡ Some c → table.get many handle ≡ Some c

-- a copy that the log alone has is without a row
abbrev pub HasNoRow : Table Copy → Table Copy → Rows → Type 0
HasNoRow few many rows = (handle : ℕ) (c : Copy) → table.get many handle ≡ Some c → table.get few handle ≡ None → table.get rows handle ≡ None

pub record IsLogOf (l k : Logged) : Type 0 where
  pub here : HasOneName l
  pub log : IsFoundLog k
  pub files : l.table.files ≡ k.table.files
  pub among : AreAmong l.copies k.copies
  pub alone : HasNoRow l.copies k.copies (rows_of l)

-- files after a record

copied_files : (t u : ChunkTable) (next : ℕ) (es : List (Path × Node)) → t.files ≡ u.files → (with_copied_nodes t next es).files ≡ (with_copied_nodes u next es).files
copied_files t u next [] same = same
copied_files t u next (e ∷ es) same = copied_files (with_copied_node t next e.1) (with_copied_node u next e.1) (id_after next e.1) es (one e.1)
  where
    one : (n : Node) → (with_copied_node t next n).files ≡ (with_copied_node u next n).files
    one Dir = same
    one (File id) = ap (λ (f : Files). table.insert f next (unwrap_or (table.get f id) [])) same

swapped_files : (l k : Logged) (handle : ℕ) (o p : Option Copy) → l.table.files ≡ k.table.files → o ≡ p → (swapped_in l handle o).table.files ≡ (swapped_in k handle p).table.files
swapped_files l k handle o p same are = subst (λ (x : Option Copy). (swapped_in l handle o).table.files ≡ (swapped_in k handle x).table.files) are (one o)
  where
    one : (x : Option Copy) → (swapped_in l handle x).table.files ≡ (swapped_in k handle x).table.files
    one None = same
    one (Some c) = ap (λ (f : Files). (swap (record { files = f; shapes = table.empty; chunks = table.empty }) c.file c.index c.source handle).files) same

-- a chunk with a row is copied in both or in none
pub same_copy : (few many : Table Copy) (rows : Rows) (handle : ℕ) (row : ChunkRow) → table.get rows handle ≡ Some row → AreAmong few many → HasNoRow few many rows → table.get few handle ≡ table.get many handle
same_copy few many rows handle row is among alone = by_copy (table.get few handle) (table.get many handle) refl refl
  where
    by_copy : (o p : Option Copy) → table.get few handle ≡ o → table.get many handle ≡ p → table.get few handle ≡ table.get many handle
    by_copy (Some c) p few_is many_is = few_is ∙ sym (among handle c few_is)
    by_copy None None few_is many_is = few_is ∙ sym many_is
    by_copy None (Some c) few_is many_is = none_some row (sym (alone handle c many_is few_is) ∙ is)

files_after : (l k : Logged) (r : Record) → parts_of l ≡ parts_of k → IsDue (Unit {0}) l r → IsLogOf l k → (after_record l r).table.files ≡ (after_record k r).table.files
files_after l k (log.Create client n file shape path) same due h = ap (λ (f : Files). table.insert f file.0 []) h.files
files_after l k (log.Snapshot client n from to) same due h =
    copied_files l.table k.table l.next_file (copied_entries l.names from to) h.files
    ∙ ap (λ (p : Parts). (with_copied_nodes k.table p.next_file (copied_entries p.names from to)).files) same
files_after l k (log.Expired file) same due h = ap (λ (f : Files). table.remove f file.0) h.files
files_after l k (log.AddChunk file handle) same due h = ap (λ (f : Files). table.insert f file.0 (unwrap_or (table.get f file.0) [] ++ handle.0 ∷ [])) h.files
files_after l k (log.Grant handle version primary members) same due h =
    swapped_files (record l { table = grant l.table handle.0 version.0 primary.0 members }) (record k { table = grant k.table handle.0 version.0 primary.0 members }) handle.0
    (table.get l.copies handle.0) (table.get k.copies handle.0) h.files (same_copy l.copies k.copies (rows_of l) handle.0 due.0 due.1 h.among h.alone)
files_after l k (log.FileItem path file shape handles) same due h = absurd due
files_after l k other same due h = h.files

-- copies after a record

abbrev pub without_copy : Table Copy → ℕ → Option Copy → Table Copy
without_copy copies handle None = copies
without_copy copies handle (Some c) = table.remove copies handle

abbrev pub copies_after : Table Copy → Record → Table Copy
copies_after copies (log.Expired file) = removed_all copies (copies_for_file (record first_logged { copies = copies }) file.0)
copies_after copies (log.Grant handle version primary members) = without_copy copies handle.0 (table.get copies handle.0)
copies_after copies (log.CopyStart file index handle copy copy_version) = table.insert copies copy.0 (record { file = file.0; index = index; source = handle.0 })
copies_after copies other = copies

pub copies_are_after : (l : Logged) (r : Record) → (after_record l r).copies ≡ copies_after l.copies r
copies_are_after l (log.Grant handle version primary members) = one (table.get l.copies handle.0)
  where
    one : (o : Option Copy) → (swapped_in (record l { table = grant l.table handle.0 version.0 primary.0 members }) handle.0 o).copies ≡ without_copy l.copies handle.0 o
    one None = refl
    one (Some c) = refl
copies_are_after l other = refl

-- a copy for another file stays
not_among : (test : Copy → Bool) (all es : List (ℕ × Copy)) (q : ℕ) (c : Copy) → AllOf (IsFound all) es → find nat_cmp q all ≡ Some c → test c ≡ false
    → list_any (eq_by_cmp nat_cmp q) (map (λ e. e.0) (filter (λ e. test e.1) es)) ≡ false
not_among test all [] q c every h fails = refl
not_among test all (e ∷ es) q c every h fails = by_test (test e.1) refl (not_among test all es q c every.1 h fails)
  where
    other : test e.1 ≡ true → (b : Bool) → eq_by_cmp nat_cmp q e.0 ≡ b → b ≡ false
    other passes true is =
        let key : q ≡ e.0 = eqb-true q e.0 (sym (unsigned_tied q e.0) ∙ is) in
        let same : c ≡ e.1 = same_some c e.1 (sym h ∙ ap (λ (n : ℕ). find nat_cmp n all) key ∙ every.0) in
        absurd (true≢false (sym passes ∙ sym (ap test same) ∙ fails))
    other passes false is = refl

    by_test : (b : Bool) → test e.1 ≡ b → list_any (eq_by_cmp nat_cmp q) (map (λ x. x.0) (filter (λ x. test x.1) es)) ≡ false
        → list_any (eq_by_cmp nat_cmp q) (map (λ x. x.0) (cond b (e ∷ filter (λ x. test x.1) es) (filter (λ x. test x.1) es))) ≡ false
    by_test true is rest = ap (λ (b : Bool). b || list_any (eq_by_cmp nat_cmp q) (map (λ x. x.0) (filter (λ x. test x.1) es))) (other is (eq_by_cmp nat_cmp q e.0) refl) ∙ rest
    by_test false is rest = rest

other_number : (a b : ℕ) → (a ≡ b → ⊥) → (a == b) ≡ false
other_number a b other = by_test (a == b) refl
  where
    by_test : (t : Bool) → (a == b) ≡ t → t ≡ false
    by_test true is = absurd (other (eqb-true a b is))
    by_test false is = refl

copy_stays : (l : Logged) (file handle : ℕ) (c : Copy) → (c.file ≡ file → ⊥) → table.get l.copies handle ≡ Some c → table.get (removed_all l.copies (copies_for_file l file)) handle ≡ Some c
copy_stays l file handle c other is =
    removed_other l.copies (copies_for_file l file) handle
    (not_among (λ x. x.file == file) (table.entries l.copies) (table.entries l.copies) handle c (all_found (table.entries l.copies) (table.entries_sorted l.copies)) (sym (table.get-entries l.copies handle) ∙ is)
    (other_number c.file file other))
    ∙ is

among_after : (l k : Logged) (r : Record) → IsDue (Unit {0}) l r → IsLogOf l k → AreAmong (copies_after l.copies r) (copies_after k.copies r)
among_after l k (log.Expired file) due h = λ handle c is.
    let old = left_copy l file.0 handle c is in
    copy_stays k file.0 handle c old.0 (h.among handle c old.1)
among_after l k (log.Grant chunk version primary members) due h =
    subst (λ (o : Option Copy). AreAmong (without_copy l.copies chunk.0 (table.get l.copies chunk.0)) (without_copy k.copies chunk.0 o))
    (same_copy l.copies k.copies (rows_of l) chunk.0 due.0 due.1 h.among h.alone) (one (table.get l.copies chunk.0))
  where
    one : (o : Option Copy) → AreAmong (without_copy l.copies chunk.0 o) (without_copy k.copies chunk.0 o)
    one None = h.among
    one (Some x) = λ handle c is. let old = gone_split l.copies chunk.0 handle c is in gone_other k.copies chunk.0 handle old.0 ∙ h.among handle c old.1
among_after l k (log.CopyStart file index source copy copy_version) due h = λ handle c is.
    let new : Copy = record { file = file.0; index = index; source = source.0 } in
    elim (put_split l.copies copy.0 new handle c is) [
      | inl same ↦ put_there k.copies copy.0 new handle same.0 ∙ ap (λ (x : Copy). Some x) same.1
      | inr apart ↦ put_other k.copies copy.0 new handle apart.0 ∙ h.among handle c apart.1
    ]
among_after l k other due h = h.among

-- rows after a record

from_none : (t u : Rows) → From t u → (q : ℕ) → table.get t q ≡ None → table.get u q ≡ None
from_none t u f q none = by_row (table.get u q) refl
  where
    by_row : (o : Option ChunkRow) → table.get u q ≡ o → o ≡ None
    by_row None is = refl
    by_row (Some row) is = let was = f q row is in none_some was.old (sym none ∙ was.at)

changed_none : (t : Rows) (handle : ℕ) (change : ChunkRow → ChunkRow) (o : Option ChunkRow) → table.get t handle ≡ o → (q : ℕ) → table.get t q ≡ None → table.get (changed_by t handle change o) q ≡ None
changed_none t handle change None at q none = none
changed_none t handle change (Some row) at q none =
    put_other t handle (change row) q (λ same. none_some row (sym none ∙ ap (λ (n : ℕ). table.get t n) same ∙ at)) ∙ none

granted_none : (l : Logged) (handle : ℕ) (o : Option Copy) (q : ℕ) → table.get (rows_of l) q ≡ None → table.get (rows_of (swapped_in l handle o)) q ≡ None
granted_none l handle o q none = from_none (rows_of l) (rows_of (swapped_in l handle o)) (swapped_from l handle o) q none

-- a copy that one side alone has after a file has gone, it alone had before
alone_expired : (l k : Logged) (file : ℕ) → AreAmong l.copies k.copies → (handle : ℕ) (c : Copy) → table.get (removed_all k.copies (copies_for_file k file)) handle ≡ Some c
    → table.get (removed_all l.copies (copies_for_file l file)) handle ≡ None → table.get l.copies handle ≡ None
alone_expired l k file among handle c is none = by_copy (table.get l.copies handle) refl
  where
    old : (c.file ≡ file → ⊥) × (table.get k.copies handle ≡ Some c)
    old = left_copy k file handle c is

    by_copy : (o : Option Copy) → table.get l.copies handle ≡ o → o ≡ None
    by_copy None here = refl
    by_copy (Some x) here =
        let same : x ≡ c = same_some x c (sym (among handle x here) ∙ old.1) in
        none_some x (sym none ∙ copy_stays l file handle x (λ at. old.0 (sym (ap (λ (y : Copy). y.file) same) ∙ at)) here)

alone_after : (l k : Logged) (r : Record) → parts_of l ≡ parts_of k → IsDue (Unit {0}) l r → IsLogOf l k → HasNoRow (copies_after l.copies r) (copies_after k.copies r) (rows_of (after_record l r))
alone_after l k (log.Expired file) same due h = λ handle c is none.
    from_none (rows_of l) (rows_of (after_record l (log.Expired file))) (expired_from l file) handle
    (h.alone handle c (left_copy k file.0 handle c is).1 (alone_expired l k file.0 h.among handle c is none))
alone_after l k (log.Snapshot client n from to) same due h = λ handle c is none.
    from_none (rows_of l) (rows_of (after_record l (log.Snapshot client n from to))) (all_copied_from l.table l.next_file (copied_entries l.names from to)) handle (h.alone handle c is none)
alone_after l k (log.Issue chunk version) same due h = λ handle c is none.
    changed_none (rows_of l) chunk.0 (λ row. record row { issued = version.0 }) (table.get (rows_of l) chunk.0) refl handle (h.alone handle c is none)
alone_after l k (log.AddChunk file chunk) same due h = λ handle c is none.
    put_other (rows_of l) chunk.0 (added_row l.table file.0) handle
    (λ at. let low = h.log.numbered handle c is in let one = due.0 in let two = ap (λ (p : Parts). p.next_handle) same in omega (arith, low, one, two, at)) ∙ h.alone handle c is none
alone_after l k (log.CopyStart file index source copy copy_version) same due h = λ handle c is none.
    let new : Copy = record { file = file.0; index = index; source = source.0 } in
    elim (put_split k.copies copy.0 new handle c is) [
      | inl now ↦ none_some new (sym none ∙ put_there l.copies copy.0 new handle now.0)
      | inr apart ↦ put_other (rows_of l) copy.0 (copied_row l.table source.0 copy_version.0) handle apart.0 ∙ h.alone handle c apart.1 (sym (put_other l.copies copy.0 new handle apart.0) ∙ none)
    ]
alone_after l k (log.Grant chunk version primary members) same due h =
    subst (λ (o : Option Copy). HasNoRow (without_copy l.copies chunk.0 (table.get l.copies chunk.0)) (without_copy k.copies chunk.0 o) (rows_of (after_record l (log.Grant chunk version primary members))))
    (same_copy l.copies k.copies (rows_of l) chunk.0 due.0 due.1 h.among h.alone) (one (table.get l.copies chunk.0))
  where
    granted : Logged
    granted = record l { table = grant l.table chunk.0 version.0 primary.0 members }

    fewer : (o : Option Copy) (handle : ℕ) → table.get (rows_of l) handle ≡ None → table.get (rows_of (swapped_in granted chunk.0 o)) handle ≡ None
    fewer o handle none =
        granted_none granted chunk.0 o handle (changed_none (rows_of l) chunk.0 (row_granted version.0 primary.0 members) (table.get (rows_of l) chunk.0) refl handle none)

    one : (o : Option Copy) → HasNoRow (without_copy l.copies chunk.0 o) (without_copy k.copies chunk.0 o) (rows_of (swapped_in granted chunk.0 o))
    one None = λ handle c is none. fewer None handle (h.alone handle c is none)
    one (Some x) = λ handle c is none.
        let old = gone_split k.copies chunk.0 handle c is in
        fewer (Some x) handle (h.alone handle c old.1 (sym (gone_other l.copies chunk.0 handle old.0) ∙ none))
alone_after l k (log.FileItem path file shape handles) same due h = absurd due
alone_after l k (log.ChunkItem chunk granted issued primary members) same due h = absurd due
alone_after l k other same due h = h.alone

numbered_after : (l k : Logged) (r : Record) → IsDue (Unit {0}) l r → AreNumbered k → AreNumbered (after_record k r)
numbered_after l k (log.Expired file) due h = λ handle c is. h handle c (removed_cases k.copies (copies_for_file k file.0) handle c is)
numbered_after l k (log.AddChunk file chunk) due h = λ handle c is. let low = h handle c is in let more = le-max_left k.next_handle (chunk.0 + 1) in omega (arith, low, more)
numbered_after l k (log.CopyStart file index source copy copy_version) due h = λ handle c is.
    elim (put_cases k.copies copy.0 (record { file = file.0; index = index; source = source.0 }) handle c is) [
      | inl now ↦ let same = now.0 in let more = le-max_right k.next_handle (copy.0 + 1) in omega (arith, same, more)
      | inr before ↦ let low = h handle c before in let more = le-max_left k.next_handle (copy.0 + 1) in omega (arith, low, more)
    ]
numbered_after l k (log.Grant chunk version primary members) due h = one (table.get k.copies chunk.0)
  where
    granted : Logged
    granted = record k { table = grant k.table chunk.0 version.0 primary.0 members }

    one : (o : Option Copy) → AreNumbered (swapped_in granted chunk.0 o)
    one None = h
    one (Some x) = λ handle c is. h handle c (kept_cases k.copies chunk.0 handle c is)
numbered_after l k (log.Counters next_file next_handle epoch) due h = absurd due
numbered_after l k other due h = h

pub records_logged : (l k : Logged) (r : Record) → parts_of l ≡ parts_of k → IsDue (Unit {0}) l r → AreNames l r → IsLogOf l k → IsLogOf (after_record l r) (after_record k r)
records_logged l k r same due names h =
    let named = records_keep l k r same due names h.here h.log.one_name in
    let few : copies_after l.copies r ≡ (after_record l r).copies = sym (copies_are_after l r) in
    let many : copies_after k.copies r ≡ (after_record k r).copies = sym (copies_are_after k r) in
    record {
      here = named.0;
      log = record { one_name = named.1; numbered = numbered_after l k r due h.log.numbered };
      files = files_after l k r same due h;
      among = subst (λ (t : Table Copy). AreAmong t (after_record k r).copies) few (subst (λ (t : Table Copy). AreAmong (copies_after l.copies r) t) many (among_after l k r due h));
      alone = subst (λ (t : Table Copy). HasNoRow t (after_record k r).copies (rows_of (after_record l r))) few
          (subst (λ (t : Table Copy). HasNoRow (copies_after l.copies r) t (rows_of (after_record l r))) many (alone_after l k r same due h));
    }

-- a checkpoint, read again

abbrev HasChunks : Files → ℕ → List ℕ → Type 0
HasChunks files id handles = table.get files id ≡ Some handles

items_stay : (t : ChunkTable) (es : List (Path × Node)) (l : Logged) (id : ℕ) → HasChunks l.table.files id (handles_of t id) → HasChunks (after_records l (map (name_item t) es)).table.files id (handles_of t id)
items_stay t [] l id h = h
items_stay t (e ∷ es) l id h = items_stay t es (after_record l (name_item t e)) id (one e.1)
  where
    by_file : (file : ℕ) → (id ≡ file) ⊎ (id ≡ file → ⊥) → HasChunks (table.insert l.table.files file (handles_of t file)) id (handles_of t id)
    by_file file (inl same) = put_there l.table.files file (handles_of t file) id same ∙ ap (λ (n : ℕ). Some (handles_of t n)) (sym same)
    by_file file (inr other) = put_other l.table.files file (handles_of t file) id other ∙ h

    one : (n : Node) → HasChunks (after_record l (node_item t e.0 n)).table.files id (handles_of t id)
    one Dir = h
    one (File file) = by_file file (same_or_not id file)

items_chunks : (t : ChunkTable) (es : List (Path × Node)) (l : Logged) (p : Path) (id : ℕ) → HasAt es p (File id) → HasChunks (after_records l (map (name_item t) es)).table.files id (handles_of t id)
items_chunks t [] l p id has = absurd has
items_chunks t (e ∷ es) l p id (inl here) =
    items_stay t es (after_record l (name_item t e)) id
    (subst (λ (n : Node). HasChunks (after_record l (node_item t e.0 n)).table.files id (handles_of t id)) (sym here.1) (put_there l.table.files id (handles_of t id) id refl))
items_chunks t (e ∷ es) l p id (inr later) = items_chunks t es (after_record l (name_item t e)) p id later

-- each file has its chunks again, since each has a name
checkpoint_files : (l : Logged) → HasOneName l → (after_records first_logged (checkpoint_of l)).table.files ≡ l.table.files
checkpoint_files l h = ap (λ (x : Kept). x.0) (checkpoint_kept l) ∙ table.same_map nat_cmp_total table.nat_cmp-IsAntisymmetric one.table.files l.table.files (λ id. by_file id (table.get l.table.files id) refl)
  where
    first : Logged
    first = after_record first_logged (log.Counters (file_id l.next_file) (handle_of l.next_handle) l.epoch)

    one : Logged
    one = after_records first (map (name_item l.table) (table.entries l.names))

    no_file : (id : ℕ) → table.get l.table.files id ≡ None → (o : Option (List ℕ)) → table.get one.table.files id ≡ o → o ≡ None
    no_file id none None is = refl
    no_file id none (Some handles) is = elim (items_named l.table (table.entries l.names) first id (ap is_some is)) [
      | inl before ↦ absurd (true≢false (sym before ∙ ap is_some (table.get-empty nat_cmp id)))
      | inr there ↦ absurd (true≢false (sym (h.named.there there.0 id (entry_is l.names there.0 (File id) there.1)) ∙ ap is_some none))
    ]

    by_file : (id : ℕ) (o : Option (List ℕ)) → table.get l.table.files id ≡ o → table.get one.table.files id ≡ table.get l.table.files id
    by_file id None is = no_file id is (table.get one.table.files id) refl ∙ sym is
    by_file id (Some handles) is =
        let name = h.named.named id (ap is_some is) in
        items_chunks l.table (table.entries l.names) first name.0 id (found_at name.0 (table.entries l.names) (File id) (sym (table.get-entries l.names name.0) ∙ name.1))
        ∙ ap (λ (o : Option (List ℕ)). Some (unwrap_or o [])) is ∙ sym is

pub checkpoint_no_copies : (l : Logged) (handle : ℕ) → table.get (after_records first_logged (checkpoint_of l)).copies handle ≡ None
checkpoint_no_copies l handle =
    let first : Logged = after_record first_logged (log.Counters (file_id l.next_file) (handle_of l.next_handle) l.epoch) in
    ap (λ (x : Kept). table.get x.1 handle) (checkpoint_kept l) ∙ ap (λ (t : Table Copy). table.get t handle) (items_copies l.table (table.entries l.names) first) ∙ table.get-empty nat_cmp handle

pub checkpoint_logged : (l k : Logged) → Tree l.names → IsLogOf l k → IsLogOf (all_copies_given_up l) (after_records first_logged (checkpoint_of l))
checkpoint_logged l k tree h =
    record {
      here = less_keep l (table.keys l.copies) h.here;
      log = record { one_name = checkpoint_keep l tree h.here; numbered = λ handle c is. none_some c (sym (checkpoint_no_copies l handle) ∙ is) };
      files = sym (checkpoint_files l h.here);
      among = λ handle c is. none_some c (sym (no_copies l.copies handle) ∙ is);
      alone = λ handle c is gone. none_some c (sym (checkpoint_no_copies l handle) ∙ is);
    }

-- copies are given up

less_alone : (l k : Logged) (handles : List ℕ) → HasNoRow l.copies k.copies (rows_of l) → HasNoRow (removed_all l.copies handles) k.copies (removed_all (rows_of l) handles)
less_alone l k handles alone handle c is none = by_key (list_any (eq_by_cmp nat_cmp handle) handles) refl
  where
    by_key : (b : Bool) → list_any (eq_by_cmp nat_cmp handle) handles ≡ b → table.get (removed_all (rows_of l) handles) handle ≡ None
    by_key true listed = now_gone (rows_of l) handles handle listed
    by_key false not_listed = removed_other (rows_of l) handles handle not_listed ∙ alone handle c is (sym (removed_other l.copies handles handle not_listed) ∙ none)

pub less_logged : (l k : Logged) (handles : List ℕ) → IsLogOf l k → IsLogOf (copies_given_up l handles) k
less_logged l k handles h =
    record { here = less_keep l handles h.here; log = h.log; files = h.files; among = λ handle c is. h.among handle c (removed_cases l.copies handles handle c is); alone = less_alone l k handles h.alone }

pub restart_logged : (k : Logged) → IsFoundLog k → IsLogOf (all_copies_given_up k) k
restart_logged k g =
    record {
      here = less_keep k (table.keys k.copies) g.one_name;
      log = g;
      files = refl;
      among = λ handle c is. removed_cases k.copies (table.keys k.copies) handle c is;
      alone = λ handle c is none. now_gone (rows_of k) (table.keys k.copies) handle (copy_listed k.copies handle c is);
    }

same_none : (t u : Rows) → AreSameButEnds t u → (q : ℕ) → table.get t q ≡ None → table.get u q ≡ None
same_none t u same q none = by_row (table.get u q) (sym (same q) ∙ ap (λ (o : Option ChunkRow). option_map without_end o) none)
  where
    by_row : (o : Option ChunkRow) → option_map without_end o ≡ None → o ≡ None
    by_row None is = refl
    by_row (Some row) is = none_some (without_end row) (sym is)

pub first_log_of : IsLogOf first_logged first_logged
first_log_of =
    record {
      here = first_one_name;
      log = record { one_name = first_one_name; numbered = λ handle c is. none_some c (sym (table.get-empty nat_cmp handle) ∙ is) };
      files = refl;
      among = λ handle c is. is;
      alone = λ handle c is none. table.get-empty nat_cmp handle;
    }

pub epochs_logged : (l k : Logged) (epoch : ℕ) → IsLogOf l k → IsLogOf (record l { epoch = epoch }) (record k { epoch = epoch })
epochs_logged l k epoch h =
    record {
      here = record { named = h.here.named; copied = h.here.copied };
      log = record { one_name = record { named = h.log.one_name.named; copied = h.log.one_name.copied }; numbered = h.log.numbered };
      files = h.files;
      among = h.among;
      alone = h.alone;
    }

pub rows_logged : (l k : Logged) (shapes : Table Shape) (chunks : Table ChunkRow) → AreSameButEnds l.table.chunks chunks → IsLogOf l k → IsLogOf (record l { table = record l.table { shapes = shapes; chunks = chunks } }) k
rows_logged l k shapes chunks same h =
    record {
      here = record { named = h.here.named; copied = h.here.copied };
      log = h.log;
      files = h.files;
      among = h.among;
      alone = λ handle c is none. same_none (rows_of l) chunks same handle (h.alone handle c is none);
    }
