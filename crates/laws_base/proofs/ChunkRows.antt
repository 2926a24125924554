-- Rows of the table of chunks: their granted and issued versions, after each change.
use Rattle.std.proofs.Common.{◌≡◌, ℕ, ◌-◌, ◌≤◌, List, [], ◌∷◌, Option, Some, None, refl, ap, subst, ◌∙◌, inl, inr, arith}
use Rattle.std.specs.Prelude.{nat_le}
use Rattle.std.specs.FinMap as table
use Rattle.gfs_types.specs.declared.ids.FileId.{FileId}
use Rattle.log_records.specs.declared.record.Record.TheVariants as log
use Rattle.gfs_types.specs.Paths.{Path}
use Rattle.relaxed_file.specs.Names.{Node, Dir, File, id_after}
use Rattle.protocol.specs.Tables.{Table, removed_all, map_values}
use Rattle.chunk_table.specs.ChunkTable.{ChunkRow, ChunkTable, row_shared, changed_by, share_one, share_all, left_by, leave_one, leave_all, handles_of}
use Rattle.protocol.specs.Logged.{Logged, Copy, after_record, copies_for_file, swapped_in, with_copied_node, with_copied_nodes}
use Rattle.laws_base.proofs.Steps.{on_cond, put_cases, kept_cases, removed_cases}
use Rattle.laws_base.proofs.Entries.{mapped_cases}

abbrev pub Rows : Type 0
Rows = Table ChunkRow

abbrev pub rows_of : Logged → Rows
rows_of l = l.table.chunks

-- granted is at most issued
abbrev pub AreIssued : Rows → Type 0
AreIssued rows = (handle : ℕ) (row : ChunkRow) → table.get rows handle ≡ Some row → row.granted ≤ row.issued

-- what one table granted is at most what the other issued, of chunks that both have
abbrev pub IsBelow : Rows → Rows → Type 0
IsBelow rows others = (handle : ℕ) (row other : ChunkRow) → table.get rows handle ≡ Some row → table.get others handle ≡ Some other → other.granted ≤ row.issued

-- the same versions and primary
abbrev pub HaveSameVersions : ChunkRow → ChunkRow → Type 0
HaveSameVersions old row = (old.granted ≡ row.granted) × (old.issued ≡ row.issued) × (old.primary ≡ row.primary)

-- each row was there with the same versions and primary
pub record WasThere (before : Rows) (handle : ℕ) (row : ChunkRow) : Type 0 where
  pub old : ChunkRow
  pub at : table.get before handle ≡ Some old
  pub granted : old.granted ≡ row.granted
  pub issued : old.issued ≡ row.issued
  pub primary : old.primary ≡ row.primary

abbrev pub From : Rows → Rows → Type 0
From before after = (handle : ℕ) (row : ChunkRow) → table.get after handle ≡ Some row → WasThere before handle row

pub same_from : (t : Rows) → From t t
same_from t handle row h = record { old = row; at = h; granted = refl; issued = refl; primary = refl }

pub then_from : (t u v : Rows) → From t u → From u v → From t v
then_from t u v f g handle row h =
    let second = g handle row h in
    let first = f handle second.old second.at in
    record { old = first.old; at = first.at; granted = first.granted ∙ second.granted; issued = first.issued ∙ second.issued; primary = first.primary ∙ second.primary }

pub issued_from : (t u : Rows) → From t u → AreIssued t → AreIssued u
issued_from t u f h handle row is = let w = f handle row is in let old = h handle w.old w.at in let a = w.granted in let b = w.issued in omega arith

pub below_from : (t u s v : Rows) → From t u → From s v → IsBelow t s → IsBelow u v
below_from t u s v f g h handle row other is other_is =
    let a = f handle row is in
    let b = g handle other other_is in
    let old = h handle a.old b.old a.at b.at in
    let one = a.issued in let two = b.granted in
    omega arith

pub put_from : (t : Rows) (handle : ℕ) (old new : ChunkRow) → table.get t handle ≡ Some old → HaveSameVersions old new → From t (table.insert t handle new)
put_from t handle old new is same other row h =
    elim (put_cases t handle new other row h) [
      | inl now ↦ record {
        old = old;
        at = ap (λ (q : ℕ). table.get t q) now.0 ∙ is;
        granted = same.0 ∙ ap (λ (r : ChunkRow). r.granted) now.1;
        issued = same.1 ∙ ap (λ (r : ChunkRow). r.issued) now.1;
        primary = same.2 ∙ ap (λ (r : ChunkRow). r.primary) now.1;
      }
      | inr before ↦ record { old = row; at = before; granted = refl; issued = refl; primary = refl }
    ]

pub changed_from : (t : Rows) (handle : ℕ) (change : ChunkRow → ChunkRow) (o : Option ChunkRow) → table.get t handle ≡ o → ((r : ChunkRow) → HaveSameVersions r (change r)) → From t (changed_by t handle change o)
changed_from t handle change None e same = same_from t
changed_from t handle change (Some row) e same = put_from t handle row (change row) e (same row)

-- changes of owners alone

abbrev pub without_owners : ChunkRow → ChunkRow
without_owners row = record row { references = 0 }

-- each row was there, but for its owners
abbrev pub OwnedFrom : Rows → Rows → Type 0
OwnedFrom before after = (handle : ℕ) (row : ChunkRow) → table.get after handle ≡ Some row → (old : ChunkRow) × (table.get before handle ≡ Some old) × (without_owners old ≡ without_owners row)

pub from_owned : (t u : Rows) → OwnedFrom t u → From t u
from_owned t u f handle row h =
    let was = f handle row h in
    record {
      old = was.0;
      at = was.1;
      granted = ap (λ (r : ChunkRow). r.granted) was.2;
      issued = ap (λ (r : ChunkRow). r.issued) was.2;
      primary = ap (λ (r : ChunkRow). r.primary) was.2;
    }

same_owned : (t : Rows) → OwnedFrom t t
same_owned t handle row h = (row, h, refl)

then_owned : (t u v : Rows) → OwnedFrom t u → OwnedFrom u v → OwnedFrom t v
then_owned t u v f g handle row h = let second = g handle row h in let first = f handle second.0 second.1 in (first.0, first.1, first.2 ∙ second.2)

pub removed_owned : (t : Rows) (handles : List ℕ) → OwnedFrom t (removed_all t handles)
removed_owned t handles handle row h = (row, removed_cases t handles handle row h, refl)

gone_owned : (t : Rows) (handle : ℕ) → OwnedFrom t (table.remove t handle)
gone_owned t handle other row h = (row, kept_cases t handle other row h, refl)

put_owned : (t : Rows) (handle : ℕ) (old new : ChunkRow) → table.get t handle ≡ Some old → without_owners old ≡ without_owners new → OwnedFrom t (table.insert t handle new)
put_owned t handle old new is same other row h =
    elim (put_cases t handle new other row h) [
      | inl now ↦ (old, ap (λ (q : ℕ). table.get t q) now.0 ∙ is, same ∙ ap without_owners now.1)
      | inr before ↦ (row, before, refl)
    ]

shared_by : (t : Rows) (handle : ℕ) (o : Option ChunkRow) → table.get t handle ≡ o → OwnedFrom t (changed_by t handle row_shared o)
shared_by t handle None e = same_owned t
shared_by t handle (Some row) e = put_owned t handle row (row_shared row) e refl

shared_owned : (t : Rows) (handle : ℕ) → OwnedFrom t (share_one t handle)
shared_owned t handle = shared_by t handle (table.get t handle) refl

pub all_shared_owned : (t : Rows) (handles : List ℕ) → OwnedFrom t (share_all t handles)
all_shared_owned t [] = same_owned t
all_shared_owned t (h ∷ hs) = then_owned t (share_one t h) (share_all (share_one t h) hs) (shared_owned t h) (all_shared_owned (share_one t h) hs)

left_by_owned : (t : Rows) (handle : ℕ) (o : Option ChunkRow) → table.get t handle ≡ o → OwnedFrom t (left_by t handle o)
left_by_owned t handle None e = same_owned t
left_by_owned t handle (Some row) e =
    on_cond (OwnedFrom t) (nat_le row.references 1) (table.remove t handle) (table.insert t handle (record row { references = row.references - 1 }))
    (λ _. gone_owned t handle) (λ _. put_owned t handle row (record row { references = row.references - 1 }) e refl)

left_owned : (t : Rows) (handle : ℕ) → OwnedFrom t (leave_one t handle)
left_owned t handle = left_by_owned t handle (table.get t handle) refl

all_left_owned : (t : Rows) (handles : List ℕ) → OwnedFrom t (leave_all t handles)
all_left_owned t [] = same_owned t
all_left_owned t (h ∷ hs) = then_owned t (leave_one t h) (leave_all (leave_one t h) hs) (left_owned t h) (all_left_owned (leave_one t h) hs)

copied_owned : (t : ChunkTable) (next : ℕ) (n : Node) → OwnedFrom t.chunks (with_copied_node t next n).chunks
copied_owned t next Dir = same_owned t.chunks
copied_owned t next (File id) = all_shared_owned t.chunks (handles_of t id)

pub all_copied_owned : (t : ChunkTable) (next : ℕ) (es : List (Path × Node)) → OwnedFrom t.chunks (with_copied_nodes t next es).chunks
all_copied_owned t next [] = same_owned t.chunks
all_copied_owned t next (e ∷ es) =
    let one : ChunkTable = with_copied_node t next e.1 in
    then_owned t.chunks one.chunks (with_copied_nodes one (id_after next e.1) es).chunks (copied_owned t next e.1) (all_copied_owned one (id_after next e.1) es)

pub swapped_owned : (l : Logged) (handle : ℕ) (o : Option Copy) → OwnedFrom (rows_of l) (rows_of (swapped_in l handle o))
swapped_owned l handle None = same_owned (rows_of l)
swapped_owned l handle (Some c) = then_owned (rows_of l) (share_one (rows_of l) handle) (leave_one (share_one (rows_of l) handle) c.source) (shared_owned (rows_of l) handle) (left_owned (share_one (rows_of l) handle) c.source)

pub expired_owned : (j : Logged) (file : FileId) → OwnedFrom (rows_of j) (rows_of (after_record j (log.Expired file)))
expired_owned j file =
    let rest : Rows = removed_all (rows_of j) (copies_for_file j file.0) in
    then_owned (rows_of j) rest (leave_all rest (handles_of j.table file.0)) (removed_owned (rows_of j) (copies_for_file j file.0)) (all_left_owned rest (handles_of j.table file.0))

pub removed_from : (t : Rows) (handles : List ℕ) → From t (removed_all t handles)
removed_from t handles = from_owned t (removed_all t handles) (removed_owned t handles)

pub all_copied_from : (t : ChunkTable) (next : ℕ) (es : List (Path × Node)) → From t.chunks (with_copied_nodes t next es).chunks
all_copied_from t next es = from_owned t.chunks (with_copied_nodes t next es).chunks (all_copied_owned t next es)

pub swapped_from : (l : Logged) (handle : ℕ) (o : Option Copy) → From (rows_of l) (rows_of (swapped_in l handle o))
swapped_from l handle o = from_owned (rows_of l) (rows_of (swapped_in l handle o)) (swapped_owned l handle o)

pub expired_from : (j : Logged) (file : FileId) → From (rows_of j) (rows_of (after_record j (log.Expired file)))
expired_from j file = from_owned (rows_of j) (rows_of (after_record j (log.Expired file))) (expired_owned j file)

pub put_issued : (t : Rows) (at : ℕ) (new : ChunkRow) → new.granted ≤ new.issued → AreIssued t → AreIssued (table.insert t at new)
put_issued t at new l old q r is =
    elim (put_cases t at new q r is) [
      | inl same ↦ subst (λ (x : ChunkRow). x.granted ≤ x.issued) same.1 l
      | inr before ↦ old q r before
    ]

pub mapped_from : (t : Rows) (change : ChunkRow → ChunkRow) → ((r : ChunkRow) → HaveSameVersions r (change r)) → From t (map_values change t)
mapped_from t change same handle row h =
    let found = mapped_cases change t handle row h in
    record {
      old = found.0;
      at = found.1;
      granted = (same found.0).0 ∙ ap (λ (r : ChunkRow). r.granted) found.2;
      issued = (same found.0).1 ∙ ap (λ (r : ChunkRow). r.issued) found.2;
      primary = (same found.0).2 ∙ ap (λ (r : ChunkRow). r.primary) found.2;
    }
