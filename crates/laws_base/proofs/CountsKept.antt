-- Counts, rows of copies and their places are kept by records, checkpoints, restarts and copies that are given up.
use Rattle.std.proofs.Common.{◌≡◌, ◌⊎◌, ℕ, zero, suc, ◌<◌, List, [], ◌∷◌, ◌++◌, map, Option, Some, None, refl, sym, ap, subst, ◌∙◌, inl, inr, arith}
use Rattle.std.specs.Prelude.{nat_lt, filter, option_map, unwrap_or}
use Rattle.std.specs.Ordering.{nat_cmp}
use Rattle.std.specs.FinMap as table
use Rattle.log_records.specs.declared.record.Record.{Record}
use Rattle.log_records.specs.declared.record.Record.TheVariants as log
use Rattle.gfs_types.specs.Paths.{Path}
use Rattle.relaxed_file.specs.Names.{Names, Node, Dir, File, node_at, id_after, copied_entries}
use Rattle.relaxed_file.proofs.NamesTree.{Tree, entry_is}
use Rattle.protocol.specs.Tables.{Table, element_at, with_at}
use Rattle.protocol.specs.Sending.{file_id, handle_of}
use Rattle.chunk_table.specs.ChunkTable.{ChunkRow, ChunkTable, handles_of, grant, shape_of}
use Rattle.protocol.specs.Logged.{Logged, KeptCall, Copy, first_logged, after_record, after_records, copies_for_file, copies_given_up, all_copies_given_up, swapped_in, with_copied_node, with_copied_nodes, checkpoint_of, name_item, node_item, chunk_item, client_item}
use Rattle.laws_base.specs.Laws.{times_in}
use Rattle.laws_base.proofs.Steps.{none_some, same_or_not, put_cases, put_split, put_there, put_other, gone_other, gone_split, kept_cases, removed_cases}
use Rattle.laws_base.proofs.Entries.{AllOf}
use Rattle.laws_base.proofs.CopiesUnderWay.{AreCopied, keys_are_copied, no_copies}
use Rattle.laws_base.proofs.MasterMoves.{IsDue, AreNames, removed_other}
use Rattle.laws_base.proofs.OrderNumbers.{after-append}
use Rattle.laws_base.proofs.ChunkRows.{rows_of}
use Rattle.laws_base.proofs.LoggedParts.{Parts, parts_of, checkpoint_parts}
use Rattle.laws_base.proofs.FilesNamed.{Files, AreDistinct}
use Rattle.laws_base.proofs.OneName.{HasOneName, all_has, sorted_distinct, left_copy}
use Rattle.laws_base.proofs.NamesReached.{IsKeptByLog, AreSameButEnds, without_end}
use Rattle.laws_base.proofs.FilesLogged.{without_copy, copies_after, copies_are_after, same_copy, records_logged, checkpoint_logged, checkpoint_no_copies, less_logged, restart_logged, first_log_of, epochs_logged, rows_logged}
use Rattle.laws_base.proofs.Owners.{chunks_at, times_new, references_of, owned_refs, AreCounted, none_counted, no_times, changed_refs, fewer_counted}
use Rattle.laws_base.proofs.CountsLogged.{AreApart, HaveRows, IsPlacedIn, ArePlaced, AreAlone, IsCountDue, IsCopyPlaced, IsFoundCounts, IsCountedLog, apart_here, files_below, new_is_none, counted_after, fresh, apart_after, below_after, unlisted, rows_after}
use Rattle.gfs_types.specs.declared.shape.Shape.{Shape}

-- places of copies after a record

element_kept : (xs : List ℕ) (n x y : ℕ) → element_at xs n ≡ Some x → element_at (xs ++ y ∷ []) n ≡ Some x
element_kept [] n x y at = none_some x at
element_kept (z ∷ zs) zero x y at = at
element_kept (z ∷ zs) (suc n) x y at = element_kept zs n x y at

with_other : (xs : List ℕ) (i n to : ℕ) → (n ≡ i → ⊥) → element_at (with_at xs i to) n ≡ element_at xs n
with_other [] i n to other = refl
with_other (x ∷ xs) zero zero to other = absurd (other refl)
with_other (x ∷ xs) zero (suc n) to other = refl
with_other (x ∷ xs) (suc i) zero to other = refl
with_other (x ∷ xs) (suc i) (suc n) to other = with_other xs i n to (λ same. other (ap (λ (m : ℕ). suc m) same))

snapshot_other : (t : ChunkTable) (next : ℕ) (es : List (Path × Node)) (id : ℕ) → id < next → table.get (with_copied_nodes t next es).files id ≡ table.get t.files id
snapshot_other t next [] id low = refl
snapshot_other t next (e ∷ es) id low = snapshot_other (with_copied_node t next e.1) (id_after next e.1) es id (later e.1) ∙ one e.1
  where
    later : (n : Node) → id < id_after next n
    later Dir = low
    later (File source) = omega (arith, low)

    one : (n : Node) → table.get (with_copied_node t next n).files id ≡ table.get t.files id
    one Dir = refl
    one (File source) = put_other t.files next (handles_of t source) id (λ same. omega (arith, low, same))

-- a file's chunks that stay as they are
place_stays : (files more : Files) (c : Copy) → table.get more c.file ≡ table.get files c.file → IsPlacedIn files c → IsPlacedIn more c
place_stays files more c same at = ap (λ (o : Option (List ℕ)). element_at (unwrap_or o []) c.index) same ∙ at

place_added : (files : Files) (file handle : ℕ) (c : Copy) → (c.file ≡ file) ⊎ (c.file ≡ file → ⊥) → IsPlacedIn files c → IsPlacedIn (table.insert files file (chunks_at files file ++ handle ∷ [])) c
place_added files file handle c (inl same) at =
    ap (λ (o : Option (List ℕ)). element_at (unwrap_or o []) c.index) (put_there files file (chunks_at files file ++ handle ∷ []) c.file same)
    ∙ element_kept (chunks_at files file) c.index c.source handle (ap (λ (n : ℕ). element_at (chunks_at files n) c.index) (sym same) ∙ at)
place_added files file handle c (inr other) at = place_stays files (table.insert files file (chunks_at files file ++ handle ∷ [])) c (put_other files file (chunks_at files file ++ handle ∷ []) c.file other) at

place_swapped : (files : Files) (g c : Copy) (handle : ℕ) → (c.file ≡ g.file) ⊎ (c.file ≡ g.file → ⊥) → (c.file ≡ g.file → c.index ≡ g.index → ⊥) → IsPlacedIn files c
    → IsPlacedIn (table.insert files g.file (with_at (chunks_at files g.file) g.index handle)) c
place_swapped files g c handle (inl same) apart at =
    ap (λ (o : Option (List ℕ)). element_at (unwrap_or o []) c.index) (put_there files g.file (with_at (chunks_at files g.file) g.index handle) c.file same)
    ∙ with_other (chunks_at files g.file) g.index c.index handle (apart same) ∙ ap (λ (n : ℕ). element_at (chunks_at files n) c.index) (sym same) ∙ at
place_swapped files g c handle (inr other) apart at =
    place_stays files (table.insert files g.file (with_at (chunks_at files g.file) g.index handle)) c (put_other files g.file (with_at (chunks_at files g.file) g.index handle) c.file other) at

placed_after : (l : Logged) (r : Record) → IsDue (Unit {0}) l r → HasOneName l → AreAlone l.copies → ArePlaced l.copies l.table.files → ArePlaced (copies_after l.copies r) (after_record l r).table.files
placed_after l (log.Create client n file shape path) due one alone placed = λ handle c is.
    let low = files_below l one c.file (one.copied handle c is) in
    place_stays l.table.files (table.insert l.table.files file.0 []) c (put_other l.table.files file.0 [] c.file (λ same. omega (arith, low, due, same))) (placed handle c is)
placed_after l (log.Snapshot client n from to) due one alone placed = λ handle c is.
    let es : List (Path × Node) = copied_entries l.names from to in
    place_stays l.table.files (with_copied_nodes l.table l.next_file es).files c (snapshot_other l.table l.next_file es c.file (files_below l one c.file (one.copied handle c is))) (placed handle c is)
placed_after l (log.Expired file) due one alone placed = λ handle c is.
    let old = left_copy l file.0 handle c is in
    place_stays l.table.files (table.remove l.table.files file.0) c (gone_other l.table.files file.0 c.file old.0) (placed handle c old.1)
placed_after l (log.AddChunk file chunk) due one alone placed = λ handle c is. place_added l.table.files file.0 chunk.0 c (same_or_not c.file file.0) (placed handle c is)
placed_after l (log.CopyStart file index source copy copy_version) due one alone placed = λ handle c is.
    elim (put_cases l.copies copy.0 (record { file = file.0; index = index; source = source.0 }) handle c is) [
      | inl now ↦ subst (λ (x : Copy). IsPlacedIn l.table.files x) now.1 due.2
      | inr before ↦ placed handle c before
    ]
placed_after l (log.Grant chunk version primary members) due one alone placed = by_copy (table.get l.copies chunk.0) refl
  where
    granted : Logged
    granted = record l { table = grant l.table chunk.0 version.0 primary.0 members }

    by_copy : (o : Option Copy) → table.get l.copies chunk.0 ≡ o → ArePlaced (without_copy l.copies chunk.0 o) (swapped_in granted chunk.0 o).table.files
    by_copy None none handle c is = placed handle c is
    by_copy (Some g) some handle c is =
        let old = gone_split l.copies chunk.0 handle c is in
        place_swapped l.table.files g c chunk.0 (same_or_not c.file g.file) (λ file index. old.0 (alone handle chunk.0 c g old.1 some file index)) (placed handle c old.1)
placed_after l (log.FileItem path file shape handles) due one alone placed = absurd due
placed_after l other due one alone placed = placed

alone_after : (l : Logged) (r : Record) → IsDue (Unit {0}) l r → AreAlone l.copies → AreAlone (copies_after l.copies r)
alone_after l (log.Expired file) due alone = λ handle other c d is also.
    alone handle other c d (removed_cases l.copies (copies_for_file l file.0) handle c is) (removed_cases l.copies (copies_for_file l file.0) other d also)
alone_after l (log.Grant chunk version primary members) due alone = by_copy (table.get l.copies chunk.0)
  where
    by_copy : (o : Option Copy) → AreAlone (without_copy l.copies chunk.0 o)
    by_copy None handle other c d is also = alone handle other c d is also
    by_copy (Some g) handle other c d is also = alone handle other c d (kept_cases l.copies chunk.0 handle c is) (kept_cases l.copies chunk.0 other d also)
alone_after l (log.CopyStart file index source copy copy_version) due alone = λ handle other c d is also same_file same_index.
    let new : Copy = record { file = file.0; index = index; source = source.0 } in
    elim (put_split l.copies copy.0 new handle c is) [
      | inl a ↦ elim (put_split l.copies copy.0 new other d also) [
        | inl b ↦ a.0 ∙ sym b.0
        | inr b ↦ absurd (due.3 tt other d b.1 (sym same_file ∙ sym (ap (λ (x : Copy). x.file) a.1)) (sym same_index ∙ sym (ap (λ (x : Copy). x.index) a.1)))
      ]
      | inr a ↦ elim (put_split l.copies copy.0 new other d also) [
        | inl b ↦ absurd (due.3 tt handle c a.1 (same_file ∙ sym (ap (λ (x : Copy). x.file) b.1)) (same_index ∙ sym (ap (λ (x : Copy). x.index) b.1)))
        | inr b ↦ alone handle other c d a.1 b.1 same_file same_index
      ]
    ]
alone_after l other due alone = alone

-- what records ask is there, in the state and in the log

pub state_due : (l k : Logged) (r : Record) → parts_of l ≡ parts_of k → IsDue (Unit {0}) l r → IsCountedLog l k → IsCountDue l r
state_due l k (log.Create client n file shape path) same due h = ap (λ (m : ℕ). table.get l.table.files m) due ∙ new_is_none l.table.files l.next_file (files_below l h.base.here)
state_due l k (log.Snapshot client n from to) same due h = files_below l h.base.here
state_due l k (log.Expired file) same due h = apart_here l k h
state_due l k (log.AddChunk file handle) same due h =
    ap (λ (f : Files). times_in f handle.0) h.base.files ∙ fresh (times_in k.table.files handle.0) k.next_handle handle.0 (h.log.below handle.0) (due.0 ∙ ap (λ (p : Parts). p.next_handle) same)
state_due l k (log.Grant handle version primary members) same due h = λ c is. (h.rows handle.0 c is, h.placed handle.0 c is)
state_due l k (log.CopyStart file index handle copy copy_version) same due h =
    ap (λ (f : Files). times_in f copy.0) h.base.files ∙ fresh (times_in k.table.files copy.0) k.next_handle copy.0 (h.log.below copy.0) (due.0 ∙ ap (λ (p : Parts). p.next_handle) same)
state_due l k (log.FileItem path file shape handles) same due h = absurd due
state_due l k (log.ChunkItem handle granted issued primary members) same due h = absurd due
state_due l k other same due h = tt

pub log_due : (l k : Logged) (r : Record) → parts_of l ≡ parts_of k → IsDue (Unit {0}) l r → IsCountedLog l k → IsCountDue k r
log_due l k (log.Create client n file shape path) same due h =
    ap (λ (m : ℕ). table.get k.table.files m) (due ∙ ap (λ (p : Parts). p.next_file) same) ∙ new_is_none k.table.files k.next_file (files_below k h.log.base.one_name)
log_due l k (log.Snapshot client n from to) same due h = files_below k h.log.base.one_name
log_due l k (log.Expired file) same due h = h.log.apart
log_due l k (log.AddChunk file handle) same due h = fresh (times_in k.table.files handle.0) k.next_handle handle.0 (h.log.below handle.0) (due.0 ∙ ap (λ (p : Parts). p.next_handle) same)
log_due l k (log.Grant handle version primary members) same due h = λ c is.
    let also = same_copy l.copies k.copies (rows_of l) handle.0 due.0 due.1 h.base.among h.base.alone ∙ is in
    (h.log.rows handle.0 c is, subst (λ (f : Files). IsPlacedIn f c) h.base.files (h.placed handle.0 c also))
log_due l k (log.CopyStart file index handle copy copy_version) same due h = fresh (times_in k.table.files copy.0) k.next_handle copy.0 (h.log.below copy.0) (due.0 ∙ ap (λ (p : Parts). p.next_handle) same)
log_due l k (log.FileItem path file shape handles) same due h = absurd due
log_due l k (log.ChunkItem handle granted issued primary members) same due h = absurd due
log_due l k other same due h = tt

copy_placed : (l j : Logged) (r : Record) → IsDue (Unit {0}) l r → IsCountDue j r → IsCopyPlaced j r
copy_placed l j (log.Grant handle version primary members) due fit = λ c is. (fit c is).1
copy_placed l j (log.FileItem path file shape handles) due fit = absurd fit
copy_placed l j other due fit = tt

records_counted : (l k : Logged) (r : Record) → parts_of l ≡ parts_of k → IsDue (Unit {0}) l r → AreNames l r → IsCountedLog l k → IsCountedLog (after_record l r) (after_record k r)
records_counted l k r same due names h =
    let few : copies_after l.copies r ≡ (after_record l r).copies = sym (copies_are_after l r) in
    let many : copies_after k.copies r ≡ (after_record k r).copies = sym (copies_are_after k r) in
    let here : IsCountDue l r = state_due l k r same due h in
    let there : IsCountDue k r = log_due l k r same due h in
    let base = records_logged l k r same due names h.base in
    record {
      base = base;
      log = record {
        base = base.log;
        counted = counted_after k r there h.log.counted;
        apart = subst (λ (t : Table Copy). AreApart t (after_record k r).table.files) many (apart_after l k r same due h.log);
        rows = subst (λ (t : Table Copy). HaveRows t (rows_of (after_record k r))) many (rows_after k r (copy_placed l k r due there) h.log.apart h.log.rows);
        below = below_after l k r due h.log;
      };
      counted = counted_after l r here h.counted;
      rows = subst (λ (t : Table Copy). HaveRows t (rows_of (after_record l r))) few (rows_after l r (copy_placed l l r due here) (apart_here l k h) h.rows);
      placed = subst (λ (t : Table Copy). ArePlaced t (after_record l r).table.files) few (placed_after l r due h.base.here h.alone h.placed);
      alone = subst (λ (t : Table Copy). AreAlone t) few (alone_after l r due h.alone);
    }

-- a checkpoint, read again

-- two names are of two files
abbrev AreOfOthers : List (Path × Node) → Type 0
AreOfOthers [] = Unit {0}
AreOfOthers (e ∷ es) = AllOf (λ x. (id : ℕ) → e.1 ≡ File id → x.1 ≡ File id → ⊥) es × AreOfOthers es

abbrev AreNewFiles : Files → List (Path × Node) → Type 0
AreNewFiles files es = AllOf (λ x. (id : ℕ) → x.1 ≡ File id → table.get files id ≡ None) es

all_new : (es : List (Path × Node)) → AreNewFiles (table.empty) es
all_new [] = tt
all_new (e ∷ es) = (λ id is. table.get-empty nat_cmp id, all_new es)

still_new : (files : Files) (file : ℕ) (handles : List ℕ) (es : List (Path × Node)) → AllOf (λ x. (id : ℕ) → File file ≡ File id → x.1 ≡ File id → ⊥) es → AreNewFiles files es → AreNewFiles (table.insert files file handles) es
still_new files file handles [] others new = tt
still_new files file handles (e ∷ es) others new =
    (λ id is. put_other files file handles id (λ same. others.0 id (ap (λ (n : ℕ). File n) (sym same)) is) ∙ new.0 id is, still_new files file handles es others.1 new.1)

items_counted : (t : ChunkTable) (es : List (Path × Node)) (k : Logged) → AreOfOthers es → AreNewFiles k.table.files es → AreCounted k.table → AreCounted (after_records k (map (name_item t) es)).table
items_counted t [] k others new h = h
items_counted t (e ∷ es) k others new h = items_counted t es (after_record k (name_item t e)) others.1 (still e.1 refl) (one e.1 refl)
  where
    still : (n : Node) → e.1 ≡ n → AreNewFiles (after_record k (node_item t e.0 n)).table.files es
    still Dir is = new.1
    still (File id) is = still_new k.table.files id (handles_of t id) es (subst (λ (n : Node). AllOf (λ x. (i : ℕ) → n ≡ File i → x.1 ≡ File i → ⊥) es) is others.0) new.1

    one : (n : Node) → e.1 ≡ n → AreCounted (after_record k (node_item t e.0 n)).table
    one Dir is = h
    one (File id) is = λ q.
        let more = owned_refs (shape_of t id) (rows_of k) (handles_of t id) q in
        let put = times_new k.table.files id (handles_of t id) q (new.0 id is) in
        let old = h q in
        omega (arith, more, put, old)

chunks_counted : (es : List (ℕ × ChunkRow)) (k : Logged) → AreCounted k.table → AreCounted (after_records k (map chunk_item es)).table
chunks_counted [] k h = h
chunks_counted (e ∷ es) k h =
    chunks_counted es (after_record k (chunk_item e))
    (λ q. changed_refs (rows_of k) e.0 (λ row. record row { granted = e.1.granted; issued = e.1.issued; primary = e.1.primary; members = e.1.members }) (table.get (rows_of k) e.0) refl (λ row. refl) q ∙ h q)

clients_counted : (es : List (ℕ × KeptCall)) (k : Logged) → AreCounted k.table → AreCounted (after_records k (map client_item es)).table
clients_counted [] k h = h
clients_counted (e ∷ es) k h = clients_counted es (after_record k (client_item e)) h

others_named : (names : Names) (e : Path × Node) (es : List (Path × Node)) → ((p q : Path) (id : ℕ) → node_at names p ≡ Some (File id) → node_at names q ≡ Some (File id) → p ≡ q)
    → node_at names e.0 ≡ Some e.1 → AllOf (λ x. node_at names x.0 ≡ Some x.1) es → AllOf (λ x. x.0 ≡ e.0 → ⊥) es → AllOf (λ x. (id : ℕ) → e.1 ≡ File id → x.1 ≡ File id → ⊥) es
others_named names e [] one at all apart = tt
others_named names e (x ∷ es) one at all apart =
    (λ id first second. apart.0 (one x.0 e.0 id (all.0 ∙ ap (λ (n : Node). Some n) second) (at ∙ ap (λ (n : Node). Some n) first)), others_named names e es one at all.1 apart.1)

of_others : (names : Names) (es : List (Path × Node)) → ((p q : Path) (id : ℕ) → node_at names p ≡ Some (File id) → node_at names q ≡ Some (File id) → p ≡ q)
    → AllOf (λ x. node_at names x.0 ≡ Some x.1) es → AreDistinct es → AreOfOthers es
of_others names [] one all distinct = tt
of_others names (e ∷ es) one all distinct = (others_named names e es one all.0 all.1 distinct.0, of_others names es one all.1 distinct.1)

checkpoint_counts : (l : Logged) → HasOneName l → AreCounted (after_records first_logged (checkpoint_of l)).table
checkpoint_counts l h =
    let first : Logged = after_record first_logged (log.Counters (file_id l.next_file) (handle_of l.next_handle) l.epoch) in
    let es : List (Path × Node) = table.entries l.names in
    let names : List Record = map (name_item l.table) es in
    let rows : List (ℕ × ChunkRow) = filter (λ e. nat_lt 0 e.1.references) (table.entries l.table.chunks) in
    let clients : List (ℕ × KeptCall) = table.entries l.kept in
    let one : Logged = after_records first names in
    let two : Logged = after_records one (map chunk_item rows) in
    let others : AreOfOthers es = of_others l.names es h.named.one (all_has (λ x. node_at l.names x.0 ≡ Some x.1) es (λ p v has. entry_is l.names p v has)) (sorted_distinct es (table.entries_sorted l.names)) in
    let read : AreCounted (after_records two (map client_item clients)).table = clients_counted clients two (chunks_counted rows one (items_counted l.table es first others (all_new es) none_counted)) in
    subst (λ (k : Logged). AreCounted k.table) (sym (after-append first (names ++ map chunk_item rows) (map client_item clients) ∙ ap (λ (k : Logged). after_records k (map client_item clients)) (after-append first names (map chunk_item rows)))) read

checkpoint_counted : (l k : Logged) → parts_of l ≡ parts_of k → Tree l.names → IsCountedLog l k → IsCountedLog (all_copies_given_up l) (after_records first_logged (checkpoint_of l))
checkpoint_counted l k same tree h =
    let base = checkpoint_logged l k tree h.base in
    let next : (after_records first_logged (checkpoint_of l)).next_handle ≡ k.next_handle = ap (λ (p : Parts). p.next_handle) (checkpoint_parts l tree ∙ same) in
    record {
      base = base;
      log = record {
        base = base.log;
        counted = checkpoint_counts l h.base.here;
        apart = λ handle c is. none_some c (sym (checkpoint_no_copies l handle) ∙ is);
        rows = λ handle c is. none_some c (sym (checkpoint_no_copies l handle) ∙ is);
        below = λ q more. let files = ap (λ (f : Files). times_in f q) (sym base.files ∙ h.base.files) in let low = h.log.below q (omega (arith, files, more)) in omega (arith, low, next);
      };
      counted = fewer_counted l.table (table.keys l.copies) (λ q listed. let c = keys_are_copied l q listed in apart_here l k h q c.0 c.1) h.counted;
      rows = λ handle c is. none_some c (sym (no_copies l.copies handle) ∙ is);
      placed = λ handle c is. none_some c (sym (no_copies l.copies handle) ∙ is);
      alone = λ handle other c d is also. none_some c (sym (no_copies l.copies handle) ∙ is);
    }

-- copies are given up

less_counted : (l k : Logged) (handles : List ℕ) → AreCopied l handles → IsCountedLog l k → IsCountedLog (copies_given_up l handles) k
less_counted l k handles copied h =
    record {
      base = less_logged l k handles h.base;
      log = h.log;
      counted = fewer_counted l.table handles (λ q listed. let c = copied q listed in apart_here l k h q c.0 c.1) h.counted;
      rows = λ handle c is.
          let has = h.rows handle c (removed_cases l.copies handles handle c is) in
          (has.0, removed_other (rows_of l) handles handle (unlisted l.copies handles handle c is) ∙ has.1);
      placed = λ handle c is. h.placed handle c (removed_cases l.copies handles handle c is);
      alone = λ handle other c d is also. h.alone handle other c d (removed_cases l.copies handles handle c is) (removed_cases l.copies handles other d also);
    }

pub restart_counted : (k : Logged) → IsFoundCounts k → IsCountedLog (all_copies_given_up k) k
restart_counted k g =
    record {
      base = restart_logged k g.base;
      log = g;
      counted = fewer_counted k.table (table.keys k.copies) (λ q listed. let c = keys_are_copied k q listed in g.apart q c.0 c.1) g.counted;
      rows = λ handle c is. none_some c (sym (no_copies k.copies handle) ∙ is);
      placed = λ handle c is. none_some c (sym (no_copies k.copies handle) ∙ is);
      alone = λ handle other c d is also. none_some c (sym (no_copies k.copies handle) ∙ is);
    }

-- the ends of leases change

ended_references : (o : Option ChunkRow) → references_of (option_map without_end o) ≡ references_of o
ended_references None = refl
ended_references (Some row) = refl

ended_row : (o p : Option ChunkRow) → option_map without_end o ≡ option_map without_end p → (row : ChunkRow) × (o ≡ Some row) → (row : ChunkRow) × (p ≡ Some row)
ended_row o (Some row) same has = (row, refl)
ended_row o None same has = none_some (without_end has.0) (sym same ∙ ap (λ (x : Option ChunkRow). option_map without_end x) has.1)

rows_counted : (l k : Logged) (shapes : Table Shape) (chunks : Table ChunkRow) → AreSameButEnds l.table.chunks chunks → IsCountedLog l k → IsCountedLog (record l { table = record l.table { shapes = shapes; chunks = chunks } }) k
rows_counted l k shapes chunks same h =
    record {
      base = rows_logged l k shapes chunks same h.base;
      log = h.log;
      counted = λ q. sym (ended_references (table.get chunks q)) ∙ sym (ap references_of (same q)) ∙ ended_references (table.get l.table.chunks q) ∙ h.counted q;
      rows = λ handle c is. ended_row (table.get l.table.chunks handle) (table.get chunks handle) (same handle) (h.rows handle c is);
      placed = h.placed;
      alone = h.alone;
    }

epochs_counted : (l k : Logged) (epoch : ℕ) → IsCountedLog l k → IsCountedLog (record l { epoch = epoch }) (record k { epoch = epoch })
epochs_counted l k epoch h =
    let base = epochs_logged l k epoch h.base in
    record {
      base = base;
      log = record { base = base.log; counted = h.log.counted; apart = h.log.apart; rows = h.log.rows; below = h.log.below };
      counted = h.counted;
      rows = h.rows;
      placed = h.placed;
      alone = h.alone;
    }

first_counted : IsCountedLog first_logged first_logged
first_counted =
    record {
      base = first_log_of;
      log = record {
        base = first_log_of.log;
        counted = none_counted;
        apart = λ handle c is. none_some c (sym (table.get-empty nat_cmp handle) ∙ is);
        rows = λ handle c is. none_some c (sym (table.get-empty nat_cmp handle) ∙ is);
        below = λ q more. absurd (let none = no_times q in omega (arith, none, more));
      };
      counted = none_counted;
      rows = λ handle c is. none_some c (sym (table.get-empty nat_cmp handle) ∙ is);
      placed = λ handle c is. none_some c (sym (table.get-empty nat_cmp handle) ∙ is);
      alone = λ handle other c d is also. none_some c (sym (table.get-empty nat_cmp handle) ∙ is);
    }

pub counts_kept : IsKeptByLog IsFoundCounts IsCountedLog
counts_kept =
    record {
      good = λ l k h. h.log;
      sound = λ l k h. record { alone = h.alone; rows = h.rows };
      new = first_counted;
      restart = restart_counted;
      epochs = epochs_counted;
      records = records_counted;
      checkpoint = checkpoint_counted;
      less = less_counted;
      rows = λ l k f shapes chunks same shaped h. rows_counted l k shapes chunks same h;
    }
