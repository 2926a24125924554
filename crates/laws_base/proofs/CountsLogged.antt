-- Rows have as many references as their handles stand in files, also in the log. A copy under way is for its source's place, and stands in no file.
use Rattle.std.proofs.Common.{◌≡◌, ◌⊎◌, ℕ, zero, suc, ◌+◌, ◌-◌, ◌≤◌, ◌<◌, Bool, true, false, List, [], ◌∷◌, ◌++◌, Option, Some, None, is_some, refl, sym, ap, ◌∙◌, inl, inr, arith}
use Rattle.std.specs.Prelude.{◌==◌, nat_le}
use Rattle.std.specs.List.{list_any}
use Rattle.std.specs.Ordering.{nat_cmp, eq_by_cmp}
use Rattle.std.proofs.Math.Nat.{le-max_left, le-max_right}
use Rattle.std.specs.FinMap as table
use Rattle.log_records.specs.declared.record.Record.{Record}
use Rattle.log_records.specs.declared.record.Record.TheVariants as log
use Rattle.gfs_types.specs.Paths.{Path}
use Rattle.relaxed_file.specs.Names.{Node, Dir, File, id_after, copied_entries}
use Rattle.protocol.specs.Tables.{Table, removed_all, element_at, with_at}
use Rattle.chunk_table.specs.ChunkTable.{ChunkRow, ChunkTable, changed_by, share_one, share_all, left_by, leave_one, leave_all, handles_of, row_granted, grant, added_row, copied_row, no_shape}
use Rattle.protocol.specs.Logged.{Logged, Copy, after_record, copies_for_file, swapped_in, with_copied_node, with_copied_nodes}
use Rattle.laws_base.specs.Laws.{times_in}
use Rattle.laws_base.proofs.Steps.{on_cond, none_some, count-cons, count-append, same_or_not, put_cases, put_there, put_other, gone_other, gone_split, kept_cases, removed_cases, now_gone}
use Rattle.laws_base.proofs.CopiesUnderWay.{listed_copied}
use Rattle.laws_base.proofs.MasterMoves.{IsDue, removed_other}
use Rattle.laws_base.proofs.ChunkRows.{Rows, rows_of}
use Rattle.laws_base.proofs.LoggedParts.{Parts, parts_of}
use Rattle.laws_base.proofs.FilesNamed.{Files, HasFile}
use Rattle.laws_base.proofs.OneName.{HasOneName}
use Rattle.laws_base.proofs.FilesLogged.{IsFoundLog, IsLogOf, without_copy, copies_after}
use Rattle.laws_base.proofs.Owners.{stands, chunks_at, times_put, times_gone, times_at_least, HasRow, tally_same, tally_other, shared_row, AreCounted, file_counted, copied_counted, dropped_counted, added_counted, unowned_counted, changed_refs, fewer_counted, placed_stands, swapped_counted}
use Rattle.gfs_types.specs.Shapes.{shape_or}

-- a copy's handle stands in no file
abbrev pub AreApart : Table Copy → Files → Type 0
AreApart copies files = (handle : ℕ) (c : Copy) → table.get copies handle ≡ Some c → times_in files handle ≡ 0

abbrev pub HaveRows : Table Copy → Rows → Type 0
HaveRows copies rows = (handle : ℕ) (c : Copy) → table.get copies handle ≡ Some c → HasRow rows handle

-- handles in files are below the next one
abbrev pub AreBelow : Files → ℕ → Type 0
AreBelow files next = (q : ℕ) → 1 ≤ times_in files q → q < next

abbrev pub IsPlacedIn : Files → Copy → Type 0
IsPlacedIn files c = element_at (chunks_at files c.file) c.index ≡ Some c.source

abbrev pub ArePlaced : Table Copy → Files → Type 0
ArePlaced copies files = (handle : ℕ) (c : Copy) → table.get copies handle ≡ Some c → IsPlacedIn files c

abbrev pub AreAlone : Table Copy → Type 0
AreAlone copies = (handle other : ℕ) (c d : Copy) → table.get copies handle ≡ Some c → table.get copies other ≡ Some d → c.file ≡ d.file → c.index ≡ d.index → handle ≡ other

-- what a log says
pub record IsFoundCounts (k : Logged) : Type 0 where
  pub base : IsFoundLog k
  pub counted : AreCounted k.table
  pub apart : AreApart k.copies k.table.files
  pub rows : HaveRows k.copies (rows_of k)
  pub below : AreBelow k.table.files k.next_handle

pub record IsCountedLog (l k : Logged) : Type 0 where
  pub base : IsLogOf l k
  pub log : IsFoundCounts k
  pub counted : AreCounted l.table
  pub rows : HaveRows l.copies (rows_of l)
  pub placed : ArePlaced l.copies l.table.files
  pub alone : AreAlone l.copies

pub apart_here : (l k : Logged) → IsCountedLog l k → AreApart l.copies l.table.files
apart_here l k h handle c is = ap (λ (f : Files). times_in f handle) h.base.files ∙ h.log.apart handle c (h.base.among handle c is)

-- counts after a record

abbrev pub AreFilesBelow : Files → ℕ → Type 0
AreFilesBelow files next = (id : ℕ) → HasFile files id → id < next

pub files_below : (l : Logged) → HasOneName l → AreFilesBelow l.table.files l.next_file
files_below l h id has = let name = h.named.named id has in h.named.numbered name.0 id name.1

pub new_is_none : (files : Files) (next : ℕ) → AreFilesBelow files next → table.get files next ≡ None
new_is_none files next below = by_file (table.get files next) refl
  where
    by_file : (o : Option (List ℕ)) → table.get files next ≡ o → o ≡ None
    by_file None is = refl
    by_file (Some hs) is = absurd (let low = below next (ap is_some is) in omega (arith, low))

-- what the counts ask of a record
abbrev pub IsCountDue : Logged → Record → Type 0
IsCountDue j (log.Create client n file shape path) = table.get j.table.files file.0 ≡ None
IsCountDue j (log.Snapshot client n from to) = AreFilesBelow j.table.files j.next_file
IsCountDue j (log.Expired file) = AreApart j.copies j.table.files
IsCountDue j (log.AddChunk file handle) = times_in j.table.files handle.0 ≡ 0
IsCountDue j (log.Grant handle version primary members) = (c : Copy) → table.get j.copies handle.0 ≡ Some c → HasRow (rows_of j) handle.0 × IsPlacedIn j.table.files c
IsCountDue j (log.CopyStart file index handle copy copy_version) = times_in j.table.files copy.0 ≡ 0
IsCountDue j (log.FileItem path file shape handles) = ⊥
IsCountDue j (log.ChunkItem handle granted issued primary members) = ⊥
IsCountDue j other = Unit {0}

snapshot_counted : (t : ChunkTable) (next : ℕ) (es : List (Path × Node)) → ((id : ℕ) (hs : List ℕ) → table.get t.files id ≡ Some hs → id < next) → AreCounted t → AreCounted (with_copied_nodes t next es)
snapshot_counted t next [] below h = h
snapshot_counted t next (e ∷ es) below h = snapshot_counted (with_copied_node t next e.1) (id_after next e.1) es (still e.1) (one e.1)
  where
    none : (o : Option (List ℕ)) → table.get t.files next ≡ o → o ≡ None
    none None is = refl
    none (Some hs) is = absurd (let low = below next hs is in omega (arith, low))

    still : (n : Node) → (id : ℕ) (hs : List ℕ) → table.get (with_copied_node t next n).files id ≡ Some hs → id < id_after next n
    still Dir id hs is = below id hs is
    still (File source) id hs is =
        elim (put_cases t.files next (handles_of t source) id hs is) [
          | inl same ↦ let at = same.0 in omega (arith, at)
          | inr before ↦ let low = below id hs before in omega (arith, low)
        ]

    one : (n : Node) → AreCounted (with_copied_node t next n)
    one Dir = h
    one (File source) = copied_counted t source next (none (table.get t.files next) refl) h

pub keeps_row : (rows : Rows) (handle : ℕ) (change : ChunkRow → ChunkRow) (o : Option ChunkRow) (q : ℕ) → HasRow rows q → HasRow (changed_by rows handle change o) q
keeps_row rows handle change None q has = has
keeps_row rows handle change (Some row) q has = by_key (same_or_not q handle)
  where
    by_key : (q ≡ handle) ⊎ (q ≡ handle → ⊥) → HasRow (table.insert rows handle (change row)) q
    by_key (inl same) = (change row, put_there rows handle (change row) q same)
    by_key (inr other) = (has.0, put_other rows handle (change row) q other ∙ has.1)

keeps_put : (rows : Rows) (handle : ℕ) (row : ChunkRow) (q : ℕ) → HasRow rows q → HasRow (table.insert rows handle row) q
keeps_put rows handle row q has = keeps_row rows handle (λ x. row) (Some row) q has

swap_counted : (j : Logged) (handle : ℕ) (o : Option Copy) → ((c : Copy) → o ≡ Some c → HasRow (rows_of j) handle × IsPlacedIn j.table.files c) → AreCounted j.table → AreCounted (swapped_in j handle o).table
swap_counted j handle None fits h = h
swap_counted j handle (Some c) fits h = let fit = fits c refl in swapped_counted j.table c.file c.index c.source handle fit.0 fit.1 h

key_below : (files : Files) (next : ℕ) → AreFilesBelow files next → (id : ℕ) (hs : List ℕ) → table.get files id ≡ Some hs → id < next
key_below files next below id hs is = below id (ap is_some is)

pub counted_after : (j : Logged) (r : Record) → IsCountDue j r → AreCounted j.table → AreCounted (after_record j r).table
counted_after j (log.Create client n file shape path) due h = file_counted j.table file.0 (shape_or no_shape shape) due h
counted_after j (log.Snapshot client n from to) due h = snapshot_counted j.table j.next_file (copied_entries j.names from to) (key_below j.table.files j.next_file due) h
counted_after j (log.Expired file) due h =
    let handles : List ℕ = copies_for_file j file.0 in
    dropped_counted (record j.table { chunks = removed_all (rows_of j) handles }) file.0
    (fewer_counted j.table handles (λ q listed. let c = listed_copied j (λ x. x.file == file.0) q listed in due q c.0 c.1) h)
counted_after j (log.AddChunk file handle) due h = added_counted j.table file.0 handle.0 due h
counted_after j (log.Issue handle version) due h = λ q. changed_refs (rows_of j) handle.0 (λ row. record row { issued = version.0 }) (table.get (rows_of j) handle.0) refl (λ row. refl) q ∙ h q
counted_after j (log.Grant handle version primary members) due h =
    let change : ChunkRow → ChunkRow = row_granted version.0 primary.0 members in
    swap_counted (record j { table = grant j.table handle.0 version.0 primary.0 members }) handle.0 (table.get j.copies handle.0)
    (λ c is. (keeps_row (rows_of j) handle.0 change (table.get (rows_of j) handle.0) handle.0 (due c is).0, (due c is).1))
    (λ q. changed_refs (rows_of j) handle.0 change (table.get (rows_of j) handle.0) refl (λ row. refl) q ∙ h q)
counted_after j (log.CopyStart file index handle copy copy_version) due h = unowned_counted j.table copy.0 (copied_row j.table handle.0 copy_version.0) refl due h
counted_after j (log.FileItem path file shape handles) due h = absurd due
counted_after j (log.ChunkItem handle granted issued primary members) due h = absurd due
counted_after j other due h = h

-- what stands in no file still stands in none

abbrev IsOther : Logged → Record → ℕ → Type 0
IsOther j (log.AddChunk file handle) q = q ≡ handle.0 → ⊥
IsOther j (log.Grant handle version primary members) q = (c : Copy) → table.get j.copies handle.0 ≡ Some c → q ≡ handle.0 → ⊥
IsOther j (log.FileItem path file shape handles) q = ⊥
IsOther j other q = Unit {0}

snapshot_none : (t : ChunkTable) (next : ℕ) (es : List (Path × Node)) (q : ℕ) → times_in t.files q ≡ 0 → times_in (with_copied_nodes t next es).files q ≡ 0
snapshot_none t next [] q none = none
snapshot_none t next (e ∷ es) q none = snapshot_none (with_copied_node t next e.1) (id_after next e.1) es q (one e.1)
  where
    one : (n : Node) → times_in (with_copied_node t next n).files q ≡ 0
    one Dir = none
    one (File id) = let put = times_put t.files next (handles_of t id) q in let low = times_at_least t.files id q in omega (arith, put, low, none)

pub with_at_most : (hs : List ℕ) (index to q : ℕ) → (q ≡ to → ⊥) → stands q (with_at hs index to) ≤ stands q hs
with_at_most [] index to q other = omega arith
with_at_most (x ∷ xs) zero to q other =
    let new = count-cons (λ h. h == q) to xs in let old = count-cons (λ h. h == q) x xs in let none = tally_other to q other in omega (arith, new, old, none)
with_at_most (x ∷ xs) (suc index) to q other =
    let rest = with_at_most xs index to q other in
    let new = count-cons (λ h. h == q) x (with_at xs index to) in let old = count-cons (λ h. h == q) x xs in
    omega (arith, rest, new, old)

swap_none : (j : Logged) (handle : ℕ) (o : Option Copy) (q : ℕ) → ((c : Copy) → o ≡ Some c → q ≡ handle → ⊥) → times_in j.table.files q ≡ 0 → times_in (swapped_in j handle o).table.files q ≡ 0
swap_none j handle None q other none = none
swap_none j handle (Some c) q other none =
    let put = times_put j.table.files c.file (with_at (chunks_at j.table.files c.file) c.index handle) q in
    let low = with_at_most (chunks_at j.table.files c.file) c.index handle q (other c refl) in
    omega (arith, put, low, none)

none_after : (j : Logged) (r : Record) (q : ℕ) → IsOther j r q → times_in j.table.files q ≡ 0 → times_in (after_record j r).table.files q ≡ 0
none_after j (log.Create client n file shape path) q other none = let put = times_put j.table.files file.0 [] q in omega (arith, put, none)
none_after j (log.Snapshot client n from to) q other none = snapshot_none j.table j.next_file (copied_entries j.names from to) q none
none_after j (log.Expired file) q other none = let gone = times_gone j.table.files file.0 q in omega (arith, gone, none)
none_after j (log.AddChunk file handle) q other none =
    let put = times_put j.table.files file.0 (chunks_at j.table.files file.0 ++ handle.0 ∷ []) q in
    let more = count-append (λ h. h == q) (chunks_at j.table.files file.0) (handle.0 ∷ []) in
    let last = count-cons (λ h. h == q) handle.0 [] in
    let no_last = tally_other handle.0 q other in
    omega (arith, put, more, last, no_last, none)
none_after j (log.Grant handle version primary members) q other none =
    swap_none (record j { table = grant j.table handle.0 version.0 primary.0 members }) handle.0 (table.get j.copies handle.0) q other none
none_after j (log.FileItem path file shape handles) q other none = absurd other
none_after j more q other none = none

pub fresh : (n next q : ℕ) → (1 ≤ n → q < next) → q ≡ next → n ≡ 0
fresh zero next q low same = refl
fresh (suc n) next q low same = absurd (let bound = low (omega arith) in omega (arith, bound, same))

pub apart_after : (l k : Logged) (r : Record) → parts_of l ≡ parts_of k → IsDue (Unit {0}) l r → IsFoundCounts k → AreApart (copies_after k.copies r) (after_record k r).table.files
apart_after l k (log.Expired file) same due h = λ handle c is. none_after k (log.Expired file) handle tt (h.apart handle c (removed_cases k.copies (copies_for_file k file.0) handle c is))
apart_after l k (log.AddChunk file chunk) same due h = λ handle c is.
    none_after k (log.AddChunk file chunk) handle
    (λ at. let low = h.base.numbered handle c is in let one = due.0 in let two = ap (λ (p : Parts). p.next_handle) same in omega (arith, low, one, two, at)) (h.apart handle c is)
apart_after l k (log.CopyStart file index source copy copy_version) same due h = λ handle c is.
    elim (put_cases k.copies copy.0 (record { file = file.0; index = index; source = source.0 }) handle c is) [
      | inl now ↦ fresh (times_in k.table.files handle) k.next_handle handle (h.below handle) (now.0 ∙ due.0 ∙ ap (λ (p : Parts). p.next_handle) same)
      | inr before ↦ h.apart handle c before
    ]
apart_after l k (log.Grant chunk version primary members) same due h = one (table.get k.copies chunk.0) refl
  where
    entry : Record
    entry = log.Grant chunk version primary members

    one : (o : Option Copy) → table.get k.copies chunk.0 ≡ o → AreApart (without_copy k.copies chunk.0 o) (after_record k entry).table.files
    one None none handle c is = none_after k entry handle (λ x at same. none_some x (sym none ∙ at)) (h.apart handle c is)
    one (Some x) some handle c is = let old = gone_split k.copies chunk.0 handle c is in none_after k entry handle (λ y at same. old.0 same) (h.apart handle c old.1)
apart_after l k (log.FileItem path file shape handles) same due h = absurd due
apart_after l k more same due h = λ handle c is. none_after k more handle tt (h.apart handle c is)

pub next_grows : (l k : Logged) (r : Record) → IsDue (Unit {0}) l r → k.next_handle ≤ (after_record k r).next_handle
next_grows l k (log.AddChunk file chunk) due = le-max_left k.next_handle (chunk.0 + 1)
next_grows l k (log.CopyStart file index source copy copy_version) due = le-max_left k.next_handle (copy.0 + 1)
next_grows l k (log.Grant chunk version primary members) due = one (table.get k.copies chunk.0)
  where
    one : (o : Option Copy) → k.next_handle ≤ (swapped_in (record k { table = grant k.table chunk.0 version.0 primary.0 members }) chunk.0 o).next_handle
    one None = omega arith
    one (Some c) = omega arith
next_grows l k (log.Counters next_file next_handle epoch) due = absurd due
next_grows l k more due = omega arith

below_step : (k : Logged) (r : Record) (q : ℕ) → IsOther k r q → IsFoundCounts k → 1 ≤ times_in (after_record k r).table.files q → q < k.next_handle
below_step k r q other h more = by_times (times_in k.table.files q) refl
  where
    by_times : (n : ℕ) → times_in k.table.files q ≡ n → q < k.next_handle
    by_times zero is = absurd (let none = none_after k r q other is in omega (arith, none, more))
    by_times (suc n) is = h.below q (omega (arith, is))

pub below_after : (l k : Logged) (r : Record) → IsDue (Unit {0}) l r → IsFoundCounts k → AreBelow (after_record k r).table.files (after_record k r).next_handle
below_after l k (log.AddChunk file chunk) due h = λ q more.
    elim (same_or_not q chunk.0) [
      | inl same ↦ let high = le-max_right k.next_handle (chunk.0 + 1) in omega (arith, same, high)
      | inr other ↦ let low = below_step k (log.AddChunk file chunk) q other h more in let high = le-max_left k.next_handle (chunk.0 + 1) in omega (arith, low, high)
    ]
below_after l k (log.Grant chunk version primary members) due h = λ q more.
    let low = one q more (table.get k.copies chunk.0) refl (same_or_not q chunk.0) in
    let high = next_grows l k entry due in
    omega (arith, low, high)
  where
    entry : Record
    entry = log.Grant chunk version primary members

    one : (q : ℕ) → 1 ≤ times_in (after_record k entry).table.files q → (o : Option Copy) → table.get k.copies chunk.0 ≡ o → (q ≡ chunk.0) ⊎ (q ≡ chunk.0 → ⊥) → q < k.next_handle
    one q more None none key = below_step k entry q (λ x at same. none_some x (sym none ∙ at)) h more
    one q more (Some c) some (inl same) = let low = h.base.numbered chunk.0 c some in omega (arith, low, same)
    one q more (Some c) some (inr other) = below_step k entry q (λ x at same. other same) h more
below_after l k (log.FileItem path file shape handles) due h = absurd due
below_after l k other due h = λ q more. let low = below_step k other q tt h more in let high = next_grows l k other due in omega (arith, low, high)

-- rows of copies after a record

abbrev IsRowDue : Logged → Record → ℕ → Type 0
IsRowDue j (log.Expired file) q = list_any (eq_by_cmp nat_cmp q) (copies_for_file j file.0) ≡ false
IsRowDue j (log.Grant handle version primary members) q = (c : Copy) → table.get j.copies handle.0 ≡ Some c → IsPlacedIn j.table.files c
IsRowDue j (log.FileItem path file shape handles) q = ⊥
IsRowDue j other q = Unit {0}

all_shared_row : (rows : Rows) (hs : List ℕ) (q : ℕ) → HasRow rows q → HasRow (share_all rows hs) q
all_shared_row rows [] q has = has
all_shared_row rows (x ∷ xs) q has = all_shared_row (share_one rows x) xs q (shared_row rows x q has)

snapshot_row : (t : ChunkTable) (next : ℕ) (es : List (Path × Node)) (q : ℕ) → HasRow t.chunks q → HasRow (with_copied_nodes t next es).chunks q
snapshot_row t next [] q has = has
snapshot_row t next (e ∷ es) q has = snapshot_row (with_copied_node t next e.1) (id_after next e.1) es q (one e.1)
  where
    one : (n : Node) → HasRow (with_copied_node t next n).chunks q
    one Dir = has
    one (File id) = all_shared_row t.chunks (handles_of t id) q has

left_row : (rows : Rows) (x q : ℕ) → (q ≡ x → ⊥) → HasRow rows q → HasRow (leave_one rows x) q
left_row rows x q other has = by_row (table.get rows x)
  where
    by_row : (o : Option ChunkRow) → HasRow (left_by rows x o) q
    by_row None = has
    by_row (Some row) =
        on_cond (λ (r : Rows). HasRow r q) (nat_le row.references 1) (table.remove rows x) (table.insert rows x (record row { references = row.references - 1 }))
        (λ _. (has.0, gone_other rows x q other ∙ has.1)) (λ _. (has.0, put_other rows x (record row { references = row.references - 1 }) q other ∙ has.1))

all_left_row : (rows : Rows) (hs : List ℕ) (q : ℕ) → stands q hs ≡ 0 → HasRow rows q → HasRow (leave_all rows hs) q
all_left_row rows [] q none has = has
all_left_row rows (x ∷ xs) q none has =
    let whole = count-cons (λ h. h == q) x xs in
    all_left_row (leave_one rows x) xs q (omega (arith, whole, none)) (left_row rows x q (λ same. let one = tally_same x q same in omega (arith, whole, none, one)) has)

pub swap_row : (j : Logged) (handle : ℕ) (o : Option Copy) (q : ℕ) → ((c : Copy) → o ≡ Some c → IsPlacedIn j.table.files c) → times_in j.table.files q ≡ 0 → HasRow (rows_of j) q → HasRow (rows_of (swapped_in j handle o)) q
swap_row j handle None q placed none has = has
swap_row j handle (Some c) q placed none has =
    left_row (share_one (rows_of j) handle) c.source q
    (λ same. let one = placed_stands (chunks_at j.table.files c.file) c.index c.source (placed c refl) in
    let low = times_at_least j.table.files c.file c.source in let at = ap (λ (n : ℕ). times_in j.table.files n) same in omega (arith, one, low, at, none))
    (shared_row (rows_of j) handle q has)

row_after : (j : Logged) (r : Record) (q : ℕ) → IsRowDue j r q → times_in j.table.files q ≡ 0 → HasRow (rows_of j) q → HasRow (rows_of (after_record j r)) q
row_after j (log.Snapshot client n from to) q due none has = snapshot_row j.table j.next_file (copied_entries j.names from to) q has
row_after j (log.Expired file) q due none has =
    all_left_row (removed_all (rows_of j) (copies_for_file j file.0)) (chunks_at j.table.files file.0) q
    (let low = times_at_least j.table.files file.0 q in omega (arith, low, none)) (has.0, removed_other (rows_of j) (copies_for_file j file.0) q due ∙ has.1)
row_after j (log.AddChunk file handle) q due none has = keeps_put (rows_of j) handle.0 (added_row j.table file.0) q has
row_after j (log.CopyStart file index handle copy copy_version) q due none has = keeps_put (rows_of j) copy.0 (copied_row j.table handle.0 copy_version.0) q has
row_after j (log.Issue handle version) q due none has = keeps_row (rows_of j) handle.0 (λ row. record row { issued = version.0 }) (table.get (rows_of j) handle.0) q has
row_after j (log.Grant handle version primary members) q due none has =
    swap_row (record j { table = grant j.table handle.0 version.0 primary.0 members }) handle.0 (table.get j.copies handle.0) q due none
    (keeps_row (rows_of j) handle.0 (row_granted version.0 primary.0 members) (table.get (rows_of j) handle.0) q has)
row_after j (log.FileItem path file shape handles) q due none has = absurd due
row_after j (log.ChunkItem handle granted issued primary members) q due none has =
    keeps_row (rows_of j) handle.0 (λ row. record row { granted = granted.0; issued = issued.0; primary = primary.0; members = members }) (table.get (rows_of j) handle.0) q has
row_after j other q due none has = has

-- what is left was not listed
pub unlisted : {X : Type 0} (t : Table X) (ns : List ℕ) (q : ℕ) (x : X) → table.get (removed_all t ns) q ≡ Some x → list_any (eq_by_cmp nat_cmp q) ns ≡ false
unlisted t ns q x is = by_key (list_any (eq_by_cmp nat_cmp q) ns) refl
  where
    by_key : (b : Bool) → list_any (eq_by_cmp nat_cmp q) ns ≡ b → b ≡ false
    by_key true listed = none_some x (sym (now_gone t ns q listed) ∙ is)
    by_key false not_listed = refl

-- what a Grant asks of its copy
abbrev pub IsCopyPlaced : Logged → Record → Type 0
IsCopyPlaced j (log.Grant handle version primary members) = (c : Copy) → table.get j.copies handle.0 ≡ Some c → IsPlacedIn j.table.files c
IsCopyPlaced j (log.FileItem path file shape handles) = ⊥
IsCopyPlaced j other = Unit {0}

pub rows_after : (j : Logged) (r : Record) → IsCopyPlaced j r → AreApart j.copies j.table.files → HaveRows j.copies (rows_of j) → HaveRows (copies_after j.copies r) (rows_of (after_record j r))
rows_after j (log.Expired file) placed apart rows = λ handle c is.
    let old = removed_cases j.copies (copies_for_file j file.0) handle c is in
    row_after j (log.Expired file) handle (unlisted j.copies (copies_for_file j file.0) handle c is) (apart handle c old) (rows handle c old)
rows_after j (log.CopyStart file index source copy copy_version) placed apart rows = λ handle c is.
    let new : ChunkRow = copied_row j.table source.0 copy_version.0 in
    elim (put_cases j.copies copy.0 (record { file = file.0; index = index; source = source.0 }) handle c is) [
      | inl now ↦ (new, put_there (rows_of j) copy.0 new handle now.0)
      | inr before ↦ keeps_put (rows_of j) copy.0 new handle (rows handle c before)
    ]
rows_after j (log.Grant chunk version primary members) placed apart rows = one (table.get j.copies chunk.0)
  where
    entry : Record
    entry = log.Grant chunk version primary members

    one : (o : Option Copy) → HaveRows (without_copy j.copies chunk.0 o) (rows_of (after_record j entry))
    one None handle c is = row_after j entry handle placed (apart handle c is) (rows handle c is)
    one (Some x) handle c is = let old = kept_cases j.copies chunk.0 handle c is in row_after j entry handle placed (apart handle c old) (rows handle c old)
rows_after j (log.FileItem path file shape handles) placed apart rows = absurd placed
rows_after j other placed apart rows = λ handle c is. row_after j other handle tt (apart handle c is) (rows handle c is)
