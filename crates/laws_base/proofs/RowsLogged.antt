-- The log has the rows of the state, but for the ends of leases and for the copies that one of both alone has.
use Rattle.std.proofs.Common.{◌≡◌, ◌⊎◌, ℕ, Bool, true, false, List, [], Option, Some, None, refl, sym, ap, subst, ◌∙◌, inl, inr, arith}
use Rattle.std.specs.Prelude.{◌==◌, option_map, unwrap_or}
use Rattle.std.specs.List.{list_any}
use Rattle.std.specs.Ordering.{nat_cmp, eq_by_cmp}
use Rattle.std.specs.FinMap as table
use Rattle.log_records.specs.declared.record.Record.{Record}
use Rattle.log_records.specs.declared.record.Record.TheVariants as log
use Rattle.gfs_types.specs.Paths.{Path}
use Rattle.relaxed_file.specs.Names.{Node, copied_entries}
use Rattle.protocol.specs.Tables.{Table, removed_all}
use Rattle.chunk_table.specs.ChunkTable.{ChunkRow, changed_by, share_one, leave_all, handles_of, row_granted, grant, added_row, copied_row}
use Rattle.protocol.specs.Logged.{Logged, Copy, after_record, copies_for_file, swapped_in, with_copied_nodes}
use Rattle.laws_base.proofs.Steps.{none_some, same_or_not, put_there, put_other, gone_other, now_gone}
use Rattle.laws_base.proofs.CopiesUnderWay.{listed_copied}
use Rattle.laws_base.proofs.MasterMoves.{IsDue, AreNames, removed_other}
use Rattle.laws_base.proofs.ChunkRows.{Rows, rows_of}
use Rattle.laws_base.proofs.LoggedParts.{Parts, parts_of}
use Rattle.laws_base.proofs.FilesNamed.{Files}
use Rattle.laws_base.proofs.NamesReached.{without_end}
use Rattle.laws_base.proofs.FilesLogged.{without_copy, copies_after, copies_are_after, same_copy}
use Rattle.laws_base.proofs.CountsLogged.{IsFoundCounts, IsCountedLog}
use Rattle.laws_base.proofs.CountsKept.{counts_kept}
use Rattle.laws_base.proofs.RowsSame.{AreSameAt, IsSameRow, changed_same, shared_same, left_same, all_left_same, put_same, snapshot_same, IsOwned, owned_look, none_owned, changed_owned, shared_owned, left_owned, all_left_owned, put_owned, snapshot_owned}

-- a row that no copy under way has is owned
abbrev AreOwned : Logged → Type 0
AreOwned j = (q : ℕ) → table.get j.copies q ≡ None → IsOwned (table.get (rows_of j) q)

pub record IsFoundRows (k : Logged) : Type 0 where
  pub base : IsFoundCounts k
  pub owned : AreOwned k

pub record IsRowedLog (l k : Logged) : Type 0 where
  pub base : IsCountedLog l k
  pub log : IsFoundRows k
  pub owned : AreOwned l
  pub same : (q : ℕ) → table.get l.copies q ≡ table.get k.copies q → AreSameAt (rows_of l) (rows_of k) q

-- rows after a record

-- where both agree on the copy after a file has gone
expired_same : (l k : Logged) (file q : ℕ) → IsRowedLog l k → table.get (removed_all l.copies (copies_for_file l file)) q ≡ table.get (removed_all k.copies (copies_for_file k file)) q
    → AreSameAt (removed_all (rows_of l) (copies_for_file l file)) (removed_all (rows_of k) (copies_for_file k file)) q
expired_same l k file q h agree = by_lists (list_any (eq_by_cmp nat_cmp q) few) (list_any (eq_by_cmp nat_cmp q) many) refl refl
  where
    few : List ℕ
    few = copies_for_file l file

    many : List ℕ
    many = copies_for_file k file

    alike : (o p : Option ChunkRow) → table.get (removed_all (rows_of l) few) q ≡ o → table.get (removed_all (rows_of k) many) q ≡ p → IsSameRow o p → AreSameAt (removed_all (rows_of l) few) (removed_all (rows_of k) many) q
    alike o p a b same = ap (λ (x : Option ChunkRow). option_map without_end x) a ∙ same ∙ sym (ap (λ (x : Option ChunkRow). option_map without_end x) b)

    by_lists : (a b : Bool) → list_any (eq_by_cmp nat_cmp q) few ≡ a → list_any (eq_by_cmp nat_cmp q) many ≡ b → AreSameAt (removed_all (rows_of l) few) (removed_all (rows_of k) many) q
    by_lists true true a b = alike None None (now_gone (rows_of l) few q a) (now_gone (rows_of k) many q b) refl
    by_lists true false a b =
        let c = listed_copied l (λ x. x.file == file) q a in
        none_some c.0 (sym (now_gone l.copies few q a) ∙ agree ∙ removed_other k.copies many q b ∙ h.base.base.among q c.0 c.1)
    by_lists false true a b =
        let c = listed_copied k (λ x. x.file == file) q b in
        let none : table.get l.copies q ≡ None = sym (removed_other l.copies few q a) ∙ agree ∙ now_gone k.copies many q b in
        alike None None (removed_other (rows_of l) few q a ∙ h.base.base.alone q c.0 c.1 none) (now_gone (rows_of k) many q b) refl
    by_lists false false a b =
        alike (table.get (rows_of l) q) (table.get (rows_of k) q) (removed_other (rows_of l) few q a) (removed_other (rows_of k) many q b)
        (h.same q (sym (removed_other l.copies few q a) ∙ agree ∙ removed_other k.copies many q b))

granted_same : (l k : Logged) (chunk version primary : ℕ) (members : List ℕ) (o : Option Copy) (q : ℕ) → AreSameAt (rows_of l) (rows_of k) q
    → AreSameAt (rows_of (swapped_in (record l { table = grant l.table chunk version primary members }) chunk o)) (rows_of (swapped_in (record k { table = grant k.table chunk version primary members }) chunk o)) q
granted_same l k chunk version primary members o q h = one o
  where
    change : ChunkRow → ChunkRow
    change = row_granted version primary members

    t : Rows
    t = changed_by (rows_of l) chunk change (table.get (rows_of l) chunk)

    u : Rows
    u = changed_by (rows_of k) chunk change (table.get (rows_of k) chunk)

    first : AreSameAt t u q
    first = changed_same (rows_of l) (rows_of k) chunk q change (λ row. refl) h

    one : (x : Option Copy) → AreSameAt (rows_of (swapped_in (record l { table = grant l.table chunk version primary members }) chunk x)) (rows_of (swapped_in (record k { table = grant k.table chunk version primary members }) chunk x)) q
    one None = first
    one (Some c) = left_same (share_one t chunk) (share_one u chunk) c.source q (shared_same t u chunk q first)

-- who agrees after a grant agreed before
agreed : (few many : Table Copy) (chunk : ℕ) (o : Option Copy) (q : ℕ) → table.get few chunk ≡ table.get many chunk → table.get (without_copy few chunk o) q ≡ table.get (without_copy many chunk o) q → table.get few q ≡ table.get many q
agreed few many chunk None q at agree = agree
agreed few many chunk (Some c) q at agree = by_key (same_or_not q chunk)
  where
    by_key : (q ≡ chunk) ⊎ (q ≡ chunk → ⊥) → table.get few q ≡ table.get many q
    by_key (inl same) = ap (λ (n : ℕ). table.get few n) same ∙ at ∙ sym (ap (λ (n : ℕ). table.get many n) same)
    by_key (inr other) = sym (gone_other few chunk q other) ∙ agree ∙ gone_other many chunk q other

same_after : (l k : Logged) (r : Record) → parts_of l ≡ parts_of k → IsDue (Unit {0}) l r → IsRowedLog l k → (q : ℕ) → table.get (copies_after l.copies r) q ≡ table.get (copies_after k.copies r) q
    → AreSameAt (rows_of (after_record l r)) (rows_of (after_record k r)) q
same_after l k (log.Expired file) parts due h q agree =
    let few : Rows = removed_all (rows_of l) (copies_for_file l file.0) in
    let many : Rows = removed_all (rows_of k) (copies_for_file k file.0) in
    subst (λ (f : Files). AreSameAt (leave_all few (handles_of l.table file.0)) (leave_all many (unwrap_or (table.get f file.0) [])) q) h.base.base.files
    (all_left_same few many (handles_of l.table file.0) q (expired_same l k file.0 q h agree))
same_after l k (log.Snapshot client n from to) parts due h q agree =
    let es : List (Path × Node) = copied_entries l.names from to in
    subst (λ (p : Parts). AreSameAt (with_copied_nodes l.table l.next_file es).chunks (with_copied_nodes k.table p.next_file (copied_entries p.names from to)).chunks q) parts
    (snapshot_same l.table k.table l.next_file es q h.base.base.files (h.same q agree))
same_after l k (log.AddChunk file chunk) parts due h q agree = put_same (rows_of l) (rows_of k) chunk.0 (added_row l.table file.0) (added_row k.table file.0) q refl (λ other. h.same q agree)
same_after l k (log.Issue chunk version) parts due h q agree = changed_same (rows_of l) (rows_of k) chunk.0 q (λ row. record row { issued = version.0 }) (λ row. refl) (h.same q agree)
same_after l k (log.CopyStart file index source copy copy_version) parts due h q agree =
    let new : Copy = record { file = file.0; index = index; source = source.0 } in
    put_same (rows_of l) (rows_of k) copy.0 (copied_row l.table source.0 copy_version.0) (copied_row k.table source.0 copy_version.0) q refl (λ other. h.same q (sym (put_other l.copies copy.0 new q other) ∙ agree ∙ put_other k.copies copy.0 new q other))
same_after l k (log.Grant chunk version primary members) parts due h q agree =
    let at = same_copy l.copies k.copies (rows_of l) chunk.0 due.0 due.1 h.base.base.among h.base.base.alone in
    let before = agreed l.copies k.copies chunk.0 (table.get l.copies chunk.0) q at
    (subst (λ (o : Option Copy). table.get (without_copy l.copies chunk.0 (table.get l.copies chunk.0)) q ≡ table.get (without_copy k.copies chunk.0 o) q) (sym at) agree) in
    let l2 : Logged = swapped_in (record l { table = grant l.table chunk.0 version.0 primary.0 members }) chunk.0 (table.get l.copies chunk.0) in
    subst (λ (o : Option Copy). AreSameAt (rows_of l2) (rows_of (swapped_in (record k { table = grant k.table chunk.0 version.0 primary.0 members }) chunk.0 o)) q) at
    (granted_same l k chunk.0 version.0 primary.0 members (table.get l.copies chunk.0) q (h.same q before))
same_after l k (log.FileItem path file shape handles) parts due h q agree = absurd due
same_after l k (log.ChunkItem chunk granted issued primary members) parts due h q agree = absurd due
same_after l k other parts due h q agree = h.same q agree

granted_owned : (j : Logged) (chunk version primary : ℕ) (members : List ℕ) (o : Option Copy) (q : ℕ) → AreOwned j → table.get (without_copy j.copies chunk o) q ≡ None
    → IsOwned (table.get (rows_of (swapped_in (record j { table = grant j.table chunk version primary members }) chunk o)) q)
granted_owned j chunk version primary members o q h none = one o none (same_or_not q chunk)
  where
    change : ChunkRow → ChunkRow
    change = row_granted version primary members

    t : Rows
    t = changed_by (rows_of j) chunk change (table.get (rows_of j) chunk)

    before : table.get j.copies q ≡ None → IsOwned (table.get t q)
    before free = changed_owned (rows_of j) chunk q change (λ row. omega arith) (h q free)

    one : (x : Option Copy) → table.get (without_copy j.copies chunk x) q ≡ None → (q ≡ chunk) ⊎ (q ≡ chunk → ⊥) → IsOwned (table.get (rows_of (swapped_in (record j { table = grant j.table chunk version primary members }) chunk x)) q)
    one None free key = before free
    one (Some c) free (inl same) = left_owned (share_one t chunk) c.source q (shared_owned t chunk q (inl same))
    one (Some c) free (inr other) = left_owned (share_one t chunk) c.source q (shared_owned t chunk q (inr (before (sym (gone_other j.copies chunk q other) ∙ free))))

owned_after : (l j : Logged) (r : Record) → IsDue (Unit {0}) l r → AreOwned j → (q : ℕ) → table.get (copies_after j.copies r) q ≡ None → IsOwned (table.get (rows_of (after_record j r)) q)
owned_after l j (log.Expired file) due h q none = all_left_owned (removed_all (rows_of j) handles) (handles_of j.table file.0) q (by_list (list_any (eq_by_cmp nat_cmp q) handles) refl)
  where
    handles : List ℕ
    handles = copies_for_file j file.0

    by_list : (b : Bool) → list_any (eq_by_cmp nat_cmp q) handles ≡ b → IsOwned (table.get (removed_all (rows_of j) handles) q)
    by_list true a = none_owned (table.get (removed_all (rows_of j) handles) q) (now_gone (rows_of j) handles q a)
    by_list false a = owned_look (table.get (removed_all (rows_of j) handles) q) (table.get (rows_of j) q) (removed_other (rows_of j) handles q a) (h q (sym (removed_other j.copies handles q a) ∙ none))
owned_after l j (log.Snapshot client n from to) due h q none = snapshot_owned j.table j.next_file (copied_entries j.names from to) q (h q none)
owned_after l j (log.AddChunk file chunk) due h q none = put_owned (rows_of j) chunk.0 (added_row j.table file.0) q (omega arith) (h q none)
owned_after l j (log.Issue chunk version) due h q none = changed_owned (rows_of j) chunk.0 q (λ row. record row { issued = version.0 }) (λ row. omega arith) (h q none)
owned_after l j (log.CopyStart file index source copy copy_version) due h q none = by_key (same_or_not q copy.0)
  where
    new : Copy
    new = record { file = file.0; index = index; source = source.0 }

    row : ChunkRow
    row = copied_row j.table source.0 copy_version.0

    by_key : (q ≡ copy.0) ⊎ (q ≡ copy.0 → ⊥) → IsOwned (table.get (table.insert (rows_of j) copy.0 row) q)
    by_key (inl same) = none_some new (sym none ∙ put_there j.copies copy.0 new q same)
    by_key (inr other) = owned_look (table.get (table.insert (rows_of j) copy.0 row) q) (table.get (rows_of j) q) (put_other (rows_of j) copy.0 row q other) (h q (sym (put_other j.copies copy.0 new q other) ∙ none))
owned_after l j (log.Grant chunk version primary members) due h q none = granted_owned j chunk.0 version.0 primary.0 members (table.get j.copies chunk.0) q h none
owned_after l j (log.FileItem path file shape handles) due h q none = absurd due
owned_after l j (log.ChunkItem chunk granted issued primary members) due h q none = absurd due
owned_after l j other due h q none = h q none

pub records_rowed : (l k : Logged) (r : Record) → parts_of l ≡ parts_of k → IsDue (Unit {0}) l r → AreNames l r → IsRowedLog l k → IsRowedLog (after_record l r) (after_record k r)
records_rowed l k r parts due names h =
    let few : (after_record l r).copies ≡ copies_after l.copies r = copies_are_after l r in
    let many : (after_record k r).copies ≡ copies_after k.copies r = copies_are_after k r in
    let base = counts_kept.records l k r parts due names h.base in
    record {
      base = base;
      log = record { base = base.log; owned = λ q none. owned_after l k r due h.log.owned q (sym (ap (λ (t : Table Copy). table.get t q) many) ∙ none) };
      owned = λ q none. owned_after l l r due h.owned q (sym (ap (λ (t : Table Copy). table.get t q) few) ∙ none);
      same = λ q agree. same_after l k r parts due h q (sym (ap (λ (t : Table Copy). table.get t q) few) ∙ agree ∙ ap (λ (t : Table Copy). table.get t q) many);
    }
