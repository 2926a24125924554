-- Rows of the log are kept by checkpoints, restarts and copies that are given up.
use Rattle.std.proofs.Common.{◌≡◌, ℕ, ◌≤◌, Bool, true, false, cond, List, [], ◌∷◌, ◌++◌, map, Option, Some, None, refl, sym, ap, subst, ◌∙◌, arith}
use Rattle.std.specs.Prelude.{◌==◌, nat_lt, filter, option_map}
use Rattle.std.specs.List.{list_any}
use Rattle.std.specs.Ordering.{nat_cmp, eq_by_cmp}
use Rattle.std.specs.Cmp.{unsigned_tied}
use Rattle.std.proofs.lemmas.Bool.{true≢false, eqb-true, ltb-false}
use Rattle.std.specs.FinMap as table
use Rattle.std.specs.FinMap.Entries.{find}
use Rattle.log_records.specs.declared.record.Record.{Record}
use Rattle.log_records.specs.declared.record.Record.TheVariants as log
use Rattle.gfs_types.specs.Paths.{Path}
use Rattle.relaxed_file.specs.Names.{Node, Dir, File}
use Rattle.relaxed_file.proofs.NamesTree.{Tree}
use Rattle.protocol.specs.Tables.{Table, removed_all}
use Rattle.protocol.specs.Sending.{file_id, handle_of}
use Rattle.chunk_table.specs.ChunkTable.{ChunkRow, ChunkTable, handles_of, owned_row, with_owned, shape_of}
use Rattle.protocol.specs.Logged.{Logged, KeptCall, Copy, first_logged, after_record, after_records, copies_given_up, all_copies_given_up, checkpoint_of, name_item, node_item, chunk_item, client_item}
use Rattle.laws_base.specs.Laws.{times_in}
use Rattle.laws_base.proofs.Steps.{none_some, same_some, removed_cases, now_gone}
use Rattle.laws_base.proofs.Entries.{AllOf, all_filtered, all_found, IsFound, same_number}
use Rattle.laws_base.proofs.CopiesUnderWay.{AreCopied, keys_are_copied, copy_listed, no_copies}
use Rattle.laws_base.proofs.MasterMoves.{removed_other}
use Rattle.laws_base.proofs.OrderNumbers.{after-append}
use Rattle.laws_base.proofs.ChunkRows.{Rows, rows_of}
use Rattle.laws_base.proofs.LoggedParts.{parts_of}
use Rattle.laws_base.proofs.FilesNamed.{Files}
use Rattle.laws_base.proofs.NamesReached.{IsKeptByLog, AreSameButEnds, AreShapedBy, without_end}
use Rattle.laws_base.proofs.Owners.{references_of, refs, HasRow, has_row, changed_refs}
use Rattle.laws_base.proofs.CountsLogged.{IsCountedLog, keeps_row}
use Rattle.laws_base.proofs.CountsKept.{counts_kept}
use Rattle.laws_base.proofs.RowsSame.{AreSameAt, IsSameRow, changed_at, IsOwned, owned_look, none_owned, changed_owned, put_owned}
use Rattle.laws_base.proofs.RowsLogged.{IsFoundRows, IsRowedLog, records_rowed}
use Rattle.gfs_types.specs.declared.shape.Shape.{Shape}

-- rows of a checkpoint are owned

all_owned : (shape : Shape) (rows : Rows) (hs : List ℕ) (q : ℕ) → IsOwned (table.get rows q) → IsOwned (table.get (with_owned shape rows hs) q)
all_owned shape rows [] q h = h
all_owned shape rows (x ∷ xs) q h = all_owned shape (table.insert rows x (owned_row shape (table.get rows x))) xs q (put_owned rows x (owned_row shape (table.get rows x)) q (one (table.get rows x)) h)
  where
    one : (o : Option ChunkRow) → 1 ≤ (owned_row shape o).references
    one None = omega arith
    one (Some row) = omega arith

items_owned : (t : ChunkTable) (es : List (Path × Node)) (k : Logged) (q : ℕ) → IsOwned (table.get (rows_of k) q) → IsOwned (table.get (rows_of (after_records k (map (name_item t) es))) q)
items_owned t [] k q h = h
items_owned t (e ∷ es) k q h = items_owned t es (after_record k (name_item t e)) q (one e.1)
  where
    one : (n : Node) → IsOwned (table.get (rows_of (after_record k (node_item t e.0 n))) q)
    one Dir = h
    one (File id) = all_owned (shape_of t id) (rows_of k) (handles_of t id) q h

-- the row as a chunk's item writes it
abbrev written_by : ChunkRow → ChunkRow → ChunkRow
written_by item row = record row { granted = item.granted; issued = item.issued; primary = item.primary; members = item.members }

chunks_owned : (es : List (ℕ × ChunkRow)) (k : Logged) (q : ℕ) → IsOwned (table.get (rows_of k) q) → IsOwned (table.get (rows_of (after_records k (map chunk_item es))) q)
chunks_owned [] k q h = h
chunks_owned (e ∷ es) k q h = chunks_owned es (after_record k (chunk_item e)) q (changed_owned (rows_of k) e.0 q (written_by e.1) (λ row. omega arith) h)

clients_rows : (es : List (ℕ × KeptCall)) (k : Logged) → rows_of (after_records k (map client_item es)) ≡ rows_of k
clients_rows [] k = refl
clients_rows (e ∷ es) k = clients_rows es (after_record k (client_item e))

-- the row has what the item says
record IsWritten (item : ChunkRow) (o : Option ChunkRow) : Type 0 where
  row : ChunkRow
  at : o ≡ Some row
  granted : row.granted ≡ item.granted
  issued : row.issued ≡ item.issued
  primary : row.primary ≡ item.primary
  members : row.members ≡ item.members

written : (item : ChunkRow) (o : Option ChunkRow) → (row : ChunkRow) × (o ≡ Some row) → IsWritten item (option_map (written_by item) o)
written item o has = record { row = written_by item has.0; at = ap (λ (x : Option ChunkRow). option_map (written_by item) x) has.1; granted = refl; issued = refl; primary = refl; members = refl }

look_written : (item : ChunkRow) (o p : Option ChunkRow) → o ≡ p → IsWritten item p → IsWritten item o
look_written item o p same h = record { row = h.row; at = same ∙ h.at; granted = h.granted; issued = h.issued; primary = h.primary; members = h.members }

-- each item of this handle says the same
abbrev AreItems : ℕ → ChunkRow → List (ℕ × ChunkRow) → Type 0
AreItems q item es = AllOf (λ e. q ≡ e.0 → e.1 ≡ item) es

one_written : (k : Logged) (e : ℕ × ChunkRow) (q : ℕ) (item : ChunkRow) → (q ≡ e.0 → e.1 ≡ item) → IsWritten item (table.get (rows_of k) q) → IsWritten item (table.get (rows_of (after_record k (chunk_item e))) q)
one_written k e q item same h =
    look_written item (table.get (rows_of (after_record k (chunk_item e))) q) (cond (q == e.0) (option_map (written_by e.1) (table.get (rows_of k) q)) (table.get (rows_of k) q))
    (changed_at (rows_of k) e.0 q (written_by e.1) (table.get (rows_of k) e.0) refl) (by_key (q == e.0) refl)
  where
    by_key : (b : Bool) → (q == e.0) ≡ b → IsWritten item (cond b (option_map (written_by e.1) (table.get (rows_of k) q)) (table.get (rows_of k) q))
    by_key true is = subst (λ (x : ChunkRow). IsWritten item (option_map (written_by x) (table.get (rows_of k) q))) (sym (same (eqb-true q e.0 is))) (written item (table.get (rows_of k) q) (h.row, h.at))
    by_key false is = h

stays_written : (es : List (ℕ × ChunkRow)) (k : Logged) (q : ℕ) (item : ChunkRow) → AreItems q item es → IsWritten item (table.get (rows_of k) q) → IsWritten item (table.get (rows_of (after_records k (map chunk_item es))) q)
stays_written [] k q item all h = h
stays_written (e ∷ es) k q item all h = stays_written es (after_record k (chunk_item e)) q item all.1 (one_written k e q item all.0 h)

chunks_written : (es : List (ℕ × ChunkRow)) (k : Logged) (q : ℕ) (item : ChunkRow) → AreItems q item es → find nat_cmp q es ≡ Some item → HasRow (rows_of k) q
    → IsWritten item (table.get (rows_of (after_records k (map chunk_item es))) q)
chunks_written [] k q item all is has = none_some item is
chunks_written (e ∷ es) k q item all is has =
    by_key (eq_by_cmp nat_cmp q e.0) refl (chunks_written es (after_record k (chunk_item e)) q item all.1) is
  where
    next : HasRow (rows_of (after_record k (chunk_item e))) q
    next = keeps_row (rows_of k) e.0 (written_by e.1) (table.get (rows_of k) e.0) q has

    now : q ≡ e.0 → IsWritten item (table.get (rows_of (after_record k (chunk_item e))) q)
    now key =
        look_written item (table.get (rows_of (after_record k (chunk_item e))) q) (cond (q == e.0) (option_map (written_by e.1) (table.get (rows_of k) q)) (table.get (rows_of k) q))
        (changed_at (rows_of k) e.0 q (written_by e.1) (table.get (rows_of k) e.0) refl)
        (look_written item (cond (q == e.0) (option_map (written_by e.1) (table.get (rows_of k) q)) (table.get (rows_of k) q)) (option_map (written_by item) (table.get (rows_of k) q))
        (ap (λ (b : Bool). cond b (option_map (written_by e.1) (table.get (rows_of k) q)) (table.get (rows_of k) q)) (subst (λ (n : ℕ). (q == n) ≡ true) key (same_number q))
        ∙ ap (λ (x : ChunkRow). option_map (written_by x) (table.get (rows_of k) q)) (all.0 key))
        (written item (table.get (rows_of k) q) has))

    by_key : (b : Bool) → eq_by_cmp nat_cmp q e.0 ≡ b → (find nat_cmp q es ≡ Some item → HasRow (rows_of (after_record k (chunk_item e))) q → IsWritten item (table.get (rows_of (after_records (after_record k (chunk_item e)) (map chunk_item es))) q))
        → cond b (Some e.1) (find nat_cmp q es) ≡ Some item → IsWritten item (table.get (rows_of (after_records (after_record k (chunk_item e)) (map chunk_item es))) q)
    by_key true same rest g = stays_written es (after_record k (chunk_item e)) q item all.1 (now (eqb-true q e.0 (sym (unsigned_tied q e.0) ∙ same)))
    by_key false other rest g = rest g next

-- the items of a checkpoint

found_kept : (test : ChunkRow → Bool) (es : List (ℕ × ChunkRow)) (q : ℕ) (row : ChunkRow) → find nat_cmp q es ≡ Some row → test row ≡ true → find nat_cmp q (filter (λ e. test e.1) es) ≡ Some row
found_kept test [] q row is passes = none_some row is
found_kept test (e ∷ es) q row is passes = by_key (eq_by_cmp nat_cmp q e.0) refl (found_kept test es q row) is
  where
    by_test : (d : Bool) → test e.1 ≡ d → eq_by_cmp nat_cmp q e.0 ≡ true → e.1 ≡ row → find nat_cmp q (cond d (e ∷ filter (λ x. test x.1) es) (filter (λ x. test x.1) es)) ≡ Some row
    by_test true t same at = ap (λ (b : Bool). cond b (Some e.1) (find nat_cmp q (filter (λ x. test x.1) es))) same ∙ ap (λ (x : ChunkRow). Some x) at
    by_test false t same at = absurd (true≢false (sym passes ∙ sym (ap test at) ∙ t))

    behind : (d : Bool) → eq_by_cmp nat_cmp q e.0 ≡ false → find nat_cmp q (filter (λ x. test x.1) es) ≡ Some row → find nat_cmp q (cond d (e ∷ filter (λ x. test x.1) es) (filter (λ x. test x.1) es)) ≡ Some row
    behind true other g = ap (λ (b : Bool). cond b (Some e.1) (find nat_cmp q (filter (λ x. test x.1) es))) other ∙ g
    behind false other g = g

    by_key : (b : Bool) → eq_by_cmp nat_cmp q e.0 ≡ b → (find nat_cmp q es ≡ Some row → test row ≡ true → find nat_cmp q (filter (λ x. test x.1) es) ≡ Some row) → cond b (Some e.1) (find nat_cmp q es) ≡ Some row
        → find nat_cmp q (filter (λ x. test x.1) (e ∷ es)) ≡ Some row
    by_key true same rest g = by_test (test e.1) refl same (same_some e.1 row g)
    by_key false other rest g = behind (test e.1) other (rest g passes)

same_items : (t : Rows) (es : List (ℕ × ChunkRow)) (q : ℕ) (row : ChunkRow) → table.get t q ≡ Some row → AllOf (IsFound (table.entries t)) es → AreItems q row es
same_items t [] q row is all = tt
same_items t (e ∷ es) q row is all =
    (λ key. same_some e.1 row (sym all.0 ∙ sym (ap (λ (n : ℕ). find nat_cmp n (table.entries t)) key) ∙ sym (table.get-entries t q) ∙ is), same_items t es q row is all.1)

zero_none : (o : Option ChunkRow) → IsOwned o → references_of o ≡ 0 → o ≡ None
zero_none None h none = refl
zero_none (Some row) h none = absurd (omega (arith, h, none))

test_of : (n : ℕ) → 1 ≤ n → nat_lt 0 n ≡ true
test_of n more = by_test (nat_lt 0 n) refl
  where
    by_test : (b : Bool) → nat_lt 0 n ≡ b → b ≡ true
    by_test true is = refl
    by_test false is = absurd (let low = ltb-false 0 n is in omega (arith, low, more))

row_same : (a b : ChunkRow) → a.granted ≡ b.granted → a.issued ≡ b.issued → a.references ≡ b.references → a.primary ≡ b.primary → a.members ≡ b.members → without_end a ≡ without_end b
row_same a b granted issued references primary members =
    ap (λ (x : ℕ). record (without_end a) { granted = x }) granted
    ∙ ap (λ (x : ℕ). record (without_end a) { granted = b.granted; issued = x }) issued
    ∙ ap (λ (x : ℕ). record (without_end a) { granted = b.granted; issued = b.issued; references = x }) references
    ∙ ap (λ (x : ℕ). record (without_end a) { granted = b.granted; issued = b.issued; references = b.references; primary = x }) primary
    ∙ ap (λ (x : List ℕ). record (without_end b) { members = x }) members

chunks_refs : (es : List (ℕ × ChunkRow)) (k : Logged) (q : ℕ) → refs (rows_of (after_records k (map chunk_item es))) q ≡ refs (rows_of k) q
chunks_refs [] k q = refl
chunks_refs (e ∷ es) k q = chunks_refs es (after_record k (chunk_item e)) q ∙ changed_refs (rows_of k) e.0 (written_by e.1) (table.get (rows_of k) e.0) refl (λ row. refl) q

look_same : (o p f g : Option ChunkRow) → o ≡ f → p ≡ g → IsSameRow f g → IsSameRow o p
look_same o p f g a b h = ap (λ (x : Option ChunkRow). option_map without_end x) a ∙ h ∙ sym (ap (λ (x : Option ChunkRow). option_map without_end x) b)

-- without a copy a handle is in no list of copies
pub free_of : (copies : Table Copy) (q : ℕ) (row : ChunkRow) (rows : Rows) → table.get (removed_all rows (table.keys copies)) q ≡ Some row → table.get copies q ≡ None
free_of copies q row rows is = by_copy (table.get copies q) refl
  where
    by_copy : (o : Option Copy) → table.get copies q ≡ o → o ≡ None
    by_copy None none = refl
    by_copy (Some c) some = none_some row (sym (now_gone rows (table.keys copies) q (copy_listed copies q c some)) ∙ is)

-- rows of a checkpoint, read again

abbrev after_names : Logged → Logged
after_names l = after_records (after_record first_logged (log.Counters (file_id l.next_file) (handle_of l.next_handle) l.epoch)) (map (name_item l.table) (table.entries l.names))

abbrev kept_rows : Logged → List (ℕ × ChunkRow)
kept_rows l = filter (λ e. nat_lt 0 e.1.references) (table.entries l.table.chunks)

abbrev after_chunks : Logged → Logged
after_chunks l = after_records (after_names l) (map chunk_item (kept_rows l))

checkpoint_rows : (l : Logged) → rows_of (after_records first_logged (checkpoint_of l)) ≡ rows_of (after_chunks l)
checkpoint_rows l =
    let start : Logged = after_record first_logged (log.Counters (file_id l.next_file) (handle_of l.next_handle) l.epoch) in
    let names : List Record = map (name_item l.table) (table.entries l.names) in
    let rows : List (ℕ × ChunkRow) = filter (λ e. nat_lt 0 e.1.references) (table.entries l.table.chunks) in
    let clients : List (ℕ × KeptCall) = table.entries l.kept in
    ap (λ (j : Logged). rows_of j) (after-append start (names ++ map chunk_item rows) (map client_item clients) ∙ ap (λ (j : Logged). after_records j (map client_item clients)) (after-append start names (map chunk_item rows)))
    ∙ clients_rows clients (after_records (after_records start names) (map chunk_item rows))

checkpoint_owned : (l : Logged) (q : ℕ) → IsOwned (table.get (rows_of (after_chunks l)) q)
checkpoint_owned l q =
    let start : Logged = after_record first_logged (log.Counters (file_id l.next_file) (handle_of l.next_handle) l.epoch) in
    chunks_owned (kept_rows l) (after_names l) q (items_owned l.table (table.entries l.names) start q (none_owned (table.get (rows_of start) q) (table.get-empty nat_cmp q)))

-- a row that is owned is written as it was
checkpoint_written : (l : Logged) (q : ℕ) (row : ChunkRow) → table.get (rows_of l) q ≡ Some row → 1 ≤ row.references → refs (rows_of (after_chunks l)) q ≡ row.references → IsWritten row (table.get (rows_of (after_chunks l)) q)
checkpoint_written l q row is more same =
    let entries : List (ℕ × ChunkRow) = table.entries l.table.chunks in
    let all : AllOf (IsFound entries) (kept_rows l) = all_filtered (IsFound entries) (λ e. nat_lt 0 e.1.references) entries (all_found entries (table.entries_sorted l.table.chunks)) in
    let found : find nat_cmp q (kept_rows l) ≡ Some row = found_kept (λ r. nat_lt 0 r.references) entries q row (sym (table.get-entries l.table.chunks q) ∙ is) (test_of row.references more) in
    let count = chunks_refs (kept_rows l) (after_names l) q in
    chunks_written (kept_rows l) (after_names l) q row (same_items (rows_of l) (kept_rows l) q row is all) found (has_row (rows_of (after_names l)) q (omega (arith, count, same, more)))

pub checkpoint_same : (l k : Logged) (q : ℕ) → IsRowedLog l k → IsCountedLog (all_copies_given_up l) (after_records first_logged (checkpoint_of l))
    → AreSameAt (removed_all (rows_of l) (table.keys l.copies)) (rows_of (after_records first_logged (checkpoint_of l))) q
checkpoint_same l k q h counts =
    subst (λ (rows : Rows). AreSameAt given_up rows q) (sym (checkpoint_rows l)) (by_row (table.get given_up q) refl)
  where
    given_up : Rows
    given_up = removed_all (rows_of l) (table.keys l.copies)

    after : Rows
    after = rows_of (after_chunks l)

    same_count : refs after q ≡ refs given_up q
    same_count = ap (λ (rows : Rows). refs rows q) (sym (checkpoint_rows l)) ∙ counts.log.counted q ∙ ap (λ (f : Files). times_in f q) (sym counts.base.files) ∙ sym (counts.counted q)

    by_written : (row : ChunkRow) → table.get given_up q ≡ Some row → refs after q ≡ row.references → IsWritten row (table.get after q) → AreSameAt given_up after q
    by_written row is count w =
        look_same (table.get given_up q) (table.get after q) (Some row) (Some w.row) is w.at
        (ap (λ (r : ChunkRow). Some r) (row_same row w.row (sym w.granted) (sym w.issued) (sym count ∙ ap references_of w.at) (sym w.primary) (sym w.members)))

    by_row : (o : Option ChunkRow) → table.get given_up q ≡ o → AreSameAt given_up after q
    by_row None none = look_same (table.get given_up q) (table.get after q) None None none (zero_none (table.get after q) (checkpoint_owned l q) (same_count ∙ ap references_of none)) refl
    by_row (Some row) is =
        let before : table.get (rows_of l) q ≡ Some row = removed_cases (rows_of l) (table.keys l.copies) q row is in
        let more : IsOwned (Some row) = subst IsOwned before (h.owned q (free_of l.copies q row (rows_of l) is)) in
        let count : refs after q ≡ row.references = same_count ∙ ap references_of is in
        by_written row is count (checkpoint_written l q row before more count)

given_up_owned : (rows : Rows) (copies : Table Copy) (handles : List ℕ) (q : ℕ) → (table.get copies q ≡ None → IsOwned (table.get rows q)) → table.get (removed_all copies handles) q ≡ None → IsOwned (table.get (removed_all rows handles) q)
given_up_owned rows copies handles q h none = by_list (list_any (eq_by_cmp nat_cmp q) handles) refl
  where
    by_list : (b : Bool) → list_any (eq_by_cmp nat_cmp q) handles ≡ b → IsOwned (table.get (removed_all rows handles) q)
    by_list true listed = none_owned (table.get (removed_all rows handles) q) (now_gone rows handles q listed)
    by_list false other = owned_look (table.get (removed_all rows handles) q) (table.get rows q) (removed_other rows handles q other) (h (sym (removed_other copies handles q other) ∙ none))

checkpoint_rowed : (l k : Logged) → parts_of l ≡ parts_of k → Tree l.names → IsRowedLog l k → IsRowedLog (all_copies_given_up l) (after_records first_logged (checkpoint_of l))
checkpoint_rowed l k parts tree h =
    let base = counts_kept.checkpoint l k parts tree h.base in
    record {
      base = base;
      log = record {
        base = base.log;
        owned = λ q none. owned_look (table.get (rows_of (after_records first_logged (checkpoint_of l))) q) (table.get (rows_of (after_chunks l)) q) (ap (λ (rows : Rows). table.get rows q) (checkpoint_rows l)) (checkpoint_owned l q);
      };
      owned = λ q none. given_up_owned (rows_of l) l.copies (table.keys l.copies) q (h.owned q) none;
      same = λ q agree. checkpoint_same l k q h base;
    }

-- copies are given up

less_rowed : (l k : Logged) (handles : List ℕ) → AreCopied l handles → IsRowedLog l k → IsRowedLog (copies_given_up l handles) k
less_rowed l k handles copied h =
    record {
      base = counts_kept.less l k handles copied h.base;
      log = h.log;
      owned = λ q none. given_up_owned (rows_of l) l.copies handles q (h.owned q) none;
      same = λ q agree. by_list q agree (list_any (eq_by_cmp nat_cmp q) handles) refl;
    }
  where
    by_list : (q : ℕ) → table.get (removed_all l.copies handles) q ≡ table.get k.copies q → (b : Bool) → list_any (eq_by_cmp nat_cmp q) handles ≡ b → AreSameAt (removed_all (rows_of l) handles) (rows_of k) q
    by_list q agree true listed = let c = copied q listed in none_some c.0 (sym (now_gone l.copies handles q listed) ∙ agree ∙ h.base.base.among q c.0 c.1)
    by_list q agree false other =
        look_same (table.get (removed_all (rows_of l) handles) q) (table.get (rows_of k) q) (table.get (rows_of l) q) (table.get (rows_of k) q) (removed_other (rows_of l) handles q other) refl
        (h.same q (sym (removed_other l.copies handles q other) ∙ agree))

restart_rowed : (k : Logged) → IsFoundRows k → IsRowedLog (all_copies_given_up k) k
restart_rowed k g =
    record {
      base = counts_kept.restart k g.base;
      log = g;
      owned = λ q none. given_up_owned (rows_of k) k.copies (table.keys k.copies) q (g.owned q) none;
      same = λ q agree. by_list q (sym agree ∙ no_copies k.copies q) (list_any (eq_by_cmp nat_cmp q) (table.keys k.copies)) refl;
    }
  where
    by_list : (q : ℕ) → table.get k.copies q ≡ None → (b : Bool) → list_any (eq_by_cmp nat_cmp q) (table.keys k.copies) ≡ b → AreSameAt (removed_all (rows_of k) (table.keys k.copies)) (rows_of k) q
    by_list q none true listed = let c = keys_are_copied k q listed in none_some c.0 (sym none ∙ c.1)
    by_list q none false other = ap (λ (x : Option ChunkRow). option_map without_end x) (removed_other (rows_of k) (table.keys k.copies) q other)

-- the ends of leases change

owned_ends : (o p : Option ChunkRow) → IsSameRow o p → IsOwned o → IsOwned p
owned_ends o None same h = tt
owned_ends None (Some row) same h = none_some (without_end row) same
owned_ends (Some old) (Some row) same h = let count = ap (λ (x : ChunkRow). x.references) (same_some (without_end old) (without_end row) same) in omega (arith, count, h)

rows_rowed : (l k : Logged) (f : Shape → Shape) (shapes : Table Shape) (chunks : Table ChunkRow) → AreSameButEnds l.table.chunks chunks → AreShapedBy f l.table shapes chunks → IsRowedLog l k
    → IsRowedLog (record l { table = record l.table { shapes = shapes; chunks = chunks } }) k
rows_rowed l k f shapes chunks same shaped h =
    record {
      base = counts_kept.rows l k f shapes chunks same shaped h.base;
      log = h.log;
      owned = λ q none. owned_ends (table.get l.table.chunks q) (table.get chunks q) (same q) (h.owned q none);
      same = λ q agree. sym (same q) ∙ h.same q agree;
    }

pub rows_kept : IsKeptByLog IsFoundRows IsRowedLog
rows_kept =
    record {
      good = λ l k h. h.log;
      sound = λ l k h. counts_kept.sound l k h.base;
      new = record {
        base = counts_kept.new;
        log = record { base = counts_kept.new.log; owned = λ q none. none_owned (table.get (rows_of first_logged) q) (table.get-empty nat_cmp q) };
        owned = λ q none. none_owned (table.get (rows_of first_logged) q) (table.get-empty nat_cmp q);
        same = λ q agree. refl;
      };
      restart = restart_rowed;
      epochs = λ l k epoch h.
          let base = counts_kept.epochs l k epoch h.base in
          record { base = base; log = record { base = base.log; owned = h.log.owned }; owned = h.owned; same = h.same };
      records = records_rowed;
      checkpoint = checkpoint_rowed;
      less = less_rowed;
      rows = rows_rowed;
    }

-- what the log says once its copies are given up
pub given_up_same : (l k : Logged) → IsRowedLog l k → (q : ℕ) → AreSameAt (removed_all (rows_of l) (table.keys l.copies)) (removed_all (rows_of k) (table.keys k.copies)) q
given_up_same l k h q = by_lists (list_any (eq_by_cmp nat_cmp q) (table.keys l.copies)) (list_any (eq_by_cmp nat_cmp q) (table.keys k.copies)) refl refl
  where
    few : Rows
    few = removed_all (rows_of l) (table.keys l.copies)

    many : Rows
    many = removed_all (rows_of k) (table.keys k.copies)

    free : (copies : Table Copy) → list_any (eq_by_cmp nat_cmp q) (table.keys copies) ≡ false → (o : Option Copy) → table.get copies q ≡ o → o ≡ None
    free copies other None is = refl
    free copies other (Some c) is = absurd (true≢false (sym (copy_listed copies q c is) ∙ other))

    by_lists : (a b : Bool) → list_any (eq_by_cmp nat_cmp q) (table.keys l.copies) ≡ a → list_any (eq_by_cmp nat_cmp q) (table.keys k.copies) ≡ b → AreSameAt few many q
    by_lists true true a b = look_same (table.get few q) (table.get many q) None None (now_gone (rows_of l) (table.keys l.copies) q a) (now_gone (rows_of k) (table.keys k.copies) q b) refl
    by_lists true false a b = let c = keys_are_copied l q a in none_some c.0 (sym (free k.copies b (table.get k.copies q) refl) ∙ h.base.base.among q c.0 c.1)
    by_lists false true a b =
        let c = keys_are_copied k q b in
        look_same (table.get few q) (table.get many q) None None
        (removed_other (rows_of l) (table.keys l.copies) q a ∙ h.base.base.alone q c.0 c.1 (free l.copies a (table.get l.copies q) refl)) (now_gone (rows_of k) (table.keys k.copies) q b) refl
    by_lists false false a b =
        look_same (table.get few q) (table.get many q) (table.get (rows_of l) q) (table.get (rows_of k) q) (removed_other (rows_of l) (table.keys l.copies) q a) (removed_other (rows_of k) (table.keys k.copies) q b)
        (h.same q (free l.copies a (table.get l.copies q) refl ∙ sym (free k.copies b (table.get k.copies q) refl)))
