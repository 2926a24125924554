-- Versions of rows after each record, beside those that the log says.
use Rattle.std.proofs.Common.{◌≡◌, ℕ, suc, ◌≤◌, List, [], ◌∷◌, ◌++◌, map, Option, Some, None, refl, sym, ap, subst, ◌∙◌, inl, inr, arith}
use Rattle.std.specs.Prelude.{nat_lt, filter}
use Rattle.std.specs.Ordering.{nat_cmp}
use Rattle.std.specs.FinMap as table
use Rattle.std.proofs.Math.Nat.{le-max_right}
use Rattle.log_records.specs.declared.record.Record.{Record}
use Rattle.log_records.specs.declared.record.Record.TheVariants as log
use Rattle.gfs_types.specs.Paths.{Path}
use Rattle.relaxed_file.specs.Names.{Node, Dir, File, copied_entries}
use Rattle.protocol.specs.Sending.{file_id, handle_of}
use Rattle.chunk_table.specs.ChunkTable.{ChunkRow, ChunkTable, new_row, row_shared, changed_by, handles_of, row_granted, owned_row, with_owned, added_row, copied_row, shape_of}
use Rattle.protocol.specs.Logged.{Logged, KeptCall, first_logged, after_record, after_records, swapped_in, checkpoint_of, name_item, node_item, chunk_item, client_item}
use Rattle.laws_base.proofs.Steps.{none_some, same_some, put_split}
use Rattle.laws_base.proofs.Entries.{AllOf, all_filtered, all_found, IsFound}
use Rattle.laws_base.proofs.MasterMoves.{IsDue}
use Rattle.laws_base.proofs.OrderNumbers.{after-append}
use Rattle.laws_base.proofs.ChunkRows.{Rows, rows_of, AreIssued, IsBelow, From, same_from, issued_from, below_from, put_from, put_issued, all_copied_from, swapped_from, expired_from}
use Rattle.gfs_types.specs.declared.shape.Shape.{Shape}

-- two tables to which one record is applied

pub record Both (l k : Rows) : Type 0 where
  pub state : AreIssued l
  pub disk : AreIssued k
  pub below : IsBelow l k

pub both_from : (l k m n : Rows) → From l m → From k n → Both l k → Both m n
both_from l k m n f g h = record { state = issued_from l m f h.state; disk = issued_from k n g h.disk; below = below_from l m k n f g h.below }

-- a row is put into the second
put_right : (l k : Rows) (handle : ℕ) (new : ChunkRow) → new.granted ≤ new.issued → ((row : ChunkRow) → table.get l handle ≡ Some row → new.granted ≤ row.issued) → Both l k
    → Both l (table.insert k handle new)
put_right l k handle new a c h =
    record {
      state = h.state;
      disk = put_issued k handle new a h.disk;
      below = λ q r s is other_is.
          elim (put_split k handle new q s other_is) [
            | inl same ↦ subst (λ (x : ChunkRow). x.granted ≤ r.issued) same.1 (c r (subst (λ (n : ℕ). table.get l n ≡ Some r) same.0 is))
            | inr apart ↦ h.below q r s is apart.1
          ];
    }

-- a row is put into the first
put_left : (l k : Rows) (handle : ℕ) (new : ChunkRow) → new.granted ≤ new.issued → ((other : ChunkRow) → table.get k handle ≡ Some other → other.granted ≤ new.issued) → Both l k
    → Both (table.insert l handle new) k
put_left l k handle new a c h =
    record {
      state = put_issued l handle new a h.state;
      disk = h.disk;
      below = λ q r s is other_is.
          elim (put_split l handle new q r is) [
            | inl same ↦ subst (λ (x : ChunkRow). s.granted ≤ x.issued) same.1 (c s (subst (λ (n : ℕ). table.get k n ≡ Some s) same.0 other_is))
            | inr apart ↦ h.below q r s apart.1 other_is
          ];
    }

-- a row is put into both
put_both : (l k : Rows) (handle : ℕ) (new other : ChunkRow) → new.granted ≤ new.issued → other.granted ≤ other.issued → other.granted ≤ new.issued → Both l k
    → Both (table.insert l handle new) (table.insert k handle other)
put_both l k handle new other a b c h =
    record {
      state = put_issued l handle new a h.state;
      disk = put_issued k handle other b h.disk;
      below = λ q r s is other_is.
          elim (put_split l handle new q r is) [
            | inl same ↦ elim (put_split k handle other q s other_is) [
              | inl both ↦ let x = ap (λ (z : ChunkRow). z.issued) same.1 in let y = ap (λ (z : ChunkRow). z.granted) both.1 in omega (arith, x, y, c)
              | inr apart ↦ absurd (apart.0 same.0)
            ]
            | inr apart ↦ elim (put_split k handle other q s other_is) [
              | inl both ↦ absurd (apart.0 both.0)
              | inr there ↦ h.below q r s apart.1 there.1
            ]
          ];
    }

-- one row is changed in both, where it is there
changed_both : (l k : Rows) (handle : ℕ) (change : ChunkRow → ChunkRow) (o p : Option ChunkRow) → table.get l handle ≡ o → table.get k handle ≡ p
    → ((r : ChunkRow) → o ≡ Some r → (change r).granted ≤ (change r).issued) → ((s : ChunkRow) → p ≡ Some s → (change s).granted ≤ (change s).issued)
    → ((r s : ChunkRow) → o ≡ Some r → p ≡ Some s → (change s).granted ≤ (change r).issued) → Both l k → Both (changed_by l handle change o) (changed_by k handle change p)
changed_both l k handle change None None is other_is a b c h = h
changed_both l k handle change None (Some s) is other_is a b c h =
    put_right l k handle (change s) (b s refl) (λ r at. none_some r (sym is ∙ at)) h
changed_both l k handle change (Some r) None is other_is a b c h =
    put_left l k handle (change r) (a r refl) (λ s at. none_some s (sym other_is ∙ at)) h
changed_both l k handle change (Some r) (Some s) is other_is a b c h = put_both l k handle (change r) (change s) (a r refl) (b s refl) (c r s refl refl) h

granted_both : (l k : Rows) (handle version primary : ℕ) (members : List ℕ) → Both l k
    → Both (changed_by l handle (row_granted version primary members) (table.get l handle)) (changed_by k handle (row_granted version primary members) (table.get k handle))
granted_both l k handle version primary members h =
    changed_both l k handle (row_granted version primary members) (table.get l handle) (table.get k handle) refl refl
    (λ r is. le-max_right r.issued version) (λ s is. le-max_right s.issued version) (λ r s is other_is. le-max_right r.issued version) h

issued_both : (l k : Rows) (handle version : ℕ) (row : ChunkRow) → table.get l handle ≡ Some row → version ≡ suc row.issued → Both l k
    → Both (changed_by l handle (λ r. record r { issued = version }) (table.get l handle)) (changed_by k handle (λ r. record r { issued = version }) (table.get k handle))
issued_both l k handle version row at is h =
    changed_both l k handle (λ r. record r { issued = version }) (table.get l handle) (table.get k handle) refl refl
    (λ r there. let same = ap (λ (x : ChunkRow). x.issued) (same_some row r (sym at ∙ there)) in let old = h.state handle r there in omega (arith, same, old, is))
    (λ s there. let old = h.below handle row s at there in omega (arith, old, is))
    (λ r s there other. let old = h.below handle row s at other in omega (arith, old, is)) h

-- a record of a step
pub both_record : (l k : Logged) (r : Record) → IsDue ⊥ l r → Both (rows_of l) (rows_of k) → Both (rows_of (after_record l r)) (rows_of (after_record k r))
both_record l k (log.AddChunk file handle) due h =
    put_both (rows_of l) (rows_of k) handle.0 (added_row l.table file.0) (added_row k.table file.0) (omega arith) (omega arith) (omega arith) h
both_record l k (log.CopyStart file index handle copy copy_version) due h =
    put_both (rows_of l) (rows_of k) copy.0 (copied_row l.table handle.0 copy_version.0) (copied_row k.table handle.0 copy_version.0) (omega arith) (omega arith) (omega arith) h
both_record l k (log.Issue handle version) due h = issued_both (rows_of l) (rows_of k) handle.0 version.0 due.0 due.1 due.2 h
both_record l k (log.Grant handle version primary members) due h =
    let change : ChunkRow → ChunkRow = row_granted version.0 primary.0 members in
    let m : Logged = record l { table = record l.table { chunks = changed_by (rows_of l) handle.0 change (table.get (rows_of l) handle.0) } } in
    let n : Logged = record k { table = record k.table { chunks = changed_by (rows_of k) handle.0 change (table.get (rows_of k) handle.0) } } in
    both_from (rows_of m) (rows_of n) (rows_of (swapped_in m handle.0 (table.get l.copies handle.0))) (rows_of (swapped_in n handle.0 (table.get k.copies handle.0)))
    (swapped_from m handle.0 (table.get l.copies handle.0)) (swapped_from n handle.0 (table.get k.copies handle.0)) (granted_both (rows_of l) (rows_of k) handle.0 version.0 primary.0 members h)
both_record l k (log.Snapshot client n from to) due h =
    both_from (rows_of l) (rows_of k) (rows_of (after_record l (log.Snapshot client n from to))) (rows_of (after_record k (log.Snapshot client n from to)))
    (all_copied_from l.table l.next_file (copied_entries l.names from to)) (all_copied_from k.table k.next_file (copied_entries k.names from to)) h
both_record l k (log.Expired file) due h =
    both_from (rows_of l) (rows_of k) (rows_of (after_record l (log.Expired file))) (rows_of (after_record k (log.Expired file))) (expired_from l file) (expired_from k file) h
both_record l k (log.Epoch epoch) due h = h
both_record l k (log.Counters next_file next_handle epoch) due h = h
both_record l k (log.FileItem path file shape handles) due h = absurd due
both_record l k (log.ChunkItem handle granted issued primary members) due h = absurd due
both_record l k other due h = h

-- a checkpoint, read again, against the state that it was made of

owned_right : (shape : Shape) (l k : Rows) (handles : List ℕ) → Both l k → Both l (with_owned shape k handles)
owned_right shape l k [] h = h
owned_right shape l k (x ∷ xs) h = owned_right shape l (table.insert k x (owned_row shape (table.get k x))) xs (one (table.get k x) refl)
  where
    one : (o : Option ChunkRow) → table.get k x ≡ o → Both l (table.insert k x (owned_row shape o))
    one None is = put_right l k x (record new_row { shape = shape; references = 1 }) (omega arith) (λ r at. omega arith) h
    one (Some row) is = both_from l k l (table.insert k x (row_shared row)) (same_from l) (put_from k x row (row_shared row) is (refl, refl, refl)) h

abbrev IsIn : Rows → ℕ × ChunkRow → Type 0
IsIn l e = table.get l e.0 ≡ Some e.1

names_right : (l : Rows) (t : ChunkTable) (es : List (Path × Node)) (k : Logged) → Both l (rows_of k) → Both l (rows_of (after_records k (map (name_item t) es)))
names_right l t [] k h = h
names_right l t (e ∷ es) k h = names_right l t es (after_record k (name_item t e)) (one e.1)
  where
    one : (n : Node) → Both l (rows_of (after_record k (node_item t e.0 n)))
    one Dir = h
    one (File id) = owned_right (shape_of t id) l (rows_of k) (handles_of t id) h

chunks_right : (l : Rows) (es : List (ℕ × ChunkRow)) (k : Logged) → AllOf (IsIn l) es → Both l (rows_of k) → Both l (rows_of (after_records k (map chunk_item es)))
chunks_right l [] k all h = h
chunks_right l (e ∷ es) k all h = chunks_right l es (after_record k (chunk_item e)) all.1 (one (table.get (rows_of k) e.0) refl)
  where
    change : ChunkRow → ChunkRow
    change row = record row { granted = e.1.granted; issued = e.1.issued; primary = e.1.primary; members = e.1.members }

    one : (o : Option ChunkRow) → table.get (rows_of k) e.0 ≡ o → Both l (changed_by (rows_of k) e.0 change o)
    one None is = h
    one (Some row) is =
        put_right l (rows_of k) e.0 (change row) (h.state e.0 e.1 all.0)
        (λ r at. let same = ap (λ (x : ChunkRow). x.issued) (same_some e.1 r (sym all.0 ∙ at)) in let bound = h.state e.0 e.1 all.0 in omega (arith, same, bound)) h

clients_right : (l : Rows) (es : List (ℕ × KeptCall)) (k : Logged) → Both l (rows_of k) → Both l (rows_of (after_records k (map client_item es)))
clients_right l [] k h = h
clients_right l (e ∷ es) k h = clients_right l es (after_record k (client_item e)) h

in_table : (l : Rows) (es : List (ℕ × ChunkRow)) → AllOf (IsFound (table.entries l)) es → AllOf (IsIn l) es
in_table l [] all = tt
in_table l (e ∷ es) all = (table.get-entries l e.0 ∙ all.0, in_table l es all.1)

no_row : (l : Rows) → AreIssued l → Both l (table.empty)
no_row l h = record { state = h; disk = λ q r is. none_some r (sym (table.get-empty nat_cmp q) ∙ is); below = λ q r s is other_is. none_some s (sym (table.get-empty nat_cmp q) ∙ other_is) }

pub checkpoint_both : (l : Logged) → AreIssued (rows_of l) → Both (rows_of l) (rows_of (after_records first_logged (checkpoint_of l)))
checkpoint_both l h =
    let first : Logged = after_record first_logged (log.Counters (file_id l.next_file) (handle_of l.next_handle) l.epoch) in
    let names : List Record = map (name_item l.table) (table.entries l.names) in
    let rows : List (ℕ × ChunkRow) = filter (λ e. nat_lt 0 e.1.references) (table.entries (rows_of l)) in
    let clients : List (ℕ × KeptCall) = table.entries l.kept in
    let one : Logged = after_records first names in
    let two : Logged = after_records one (map chunk_item rows) in
    let there : AllOf (IsIn (rows_of l)) rows =
    in_table (rows_of l) rows (all_filtered (IsFound (table.entries (rows_of l))) (λ e. nat_lt 0 e.1.references) (table.entries (rows_of l)) (all_found (table.entries (rows_of l)) (table.entries_sorted (rows_of l)))) in
    let read : Both (rows_of l) (rows_of (after_records two (map client_item clients))) =
    clients_right (rows_of l) clients two (chunks_right (rows_of l) rows one there (names_right (rows_of l) l.table (table.entries l.names) first (no_row (rows_of l) h))) in
    subst (λ (k : Logged). Both (rows_of l) (rows_of k)) (sym (after-append first (names ++ map chunk_item rows) (map client_item clients) ∙ ap (λ (k : Logged). after_records k (map client_item clients)) (after-append first names (map chunk_item rows)))) read
