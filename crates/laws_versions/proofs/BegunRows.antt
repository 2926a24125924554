-- A chunk whose handle was used, and which, while its row is there, was granted or is a copy under way: it stays so, in the state, in the log, after each record and from a checkpoint that is read again.
use Rattle.std.proofs.Common.{◌≡◌, ◌⊎◌, ℕ, ◌+◌, ◌≤◌, ◌<◌, Bool, true, false, List, [], ◌∷◌, Option, Some, None, refl, sym, ap, ◌∙◌, inl, inr, arith}
use Rattle.std.specs.Prelude.{nat_le}
use Rattle.std.specs.List.{list_any}
use Rattle.std.specs.Ordering.{nat_cmp, eq_by_cmp}
use Rattle.std.specs.FinMap as table
use Rattle.std.proofs.lemmas.Bool.{true≢false}
use Rattle.std.proofs.Math.Nat.{le-max_right}
use Rattle.gfs_types.specs.declared.config.Config.{Config}
use Rattle.gfs_types.specs.declared.ids.FileId.{FileId}
use Rattle.gfs_types.specs.declared.ids.Handle.{Handle}
use Rattle.protocol.specs.Sending.{handle_of, version_of}
use Rattle.protocol.specs.Tables.{Table, removed_all}
use Rattle.log_records.specs.declared.record.Record.{Record}
use Rattle.log_records.specs.declared.record.Record.TheVariants as log
use Rattle.relaxed_file.specs.Names.{copied_entries}
use Rattle.relaxed_file.proofs.NamesTree.{Tree}
use Rattle.chunk_table.specs.ChunkTable.{ChunkRow, row_granted, row_left, left_by, leave_one, leave_all, handles_of, set_end, added_row, copied_row}
use Rattle.protocol.specs.Logged.{Logged, LogDisk, WriteCheckpoint, Copy, first_logged, log_changed, after_record, after_records, checkpoint_of, copies_given_up, copies_for_file, all_copies_given_up, swapped_in, replayed}
use Rattle.protocol.specs.MasterStep.{row_after_restart, started_master}
use Rattle.laws_base.proofs.Steps.{on_cond, none_some, put_cases, put_there, put_other, gone_other, removed_cases, now_gone}
use Rattle.laws_base.proofs.Entries.{mapped_cases}
use Rattle.laws_base.proofs.ChunkRows.{Rows, rows_of, OwnedFrom, removed_owned, all_copied_owned, swapped_owned, expired_owned}
use Rattle.laws_base.proofs.VersionsAhead.{changed_cases}
use Rattle.laws_base.proofs.MasterMoves.{grant_record, IsDue, IsNoGrantRecord, removed_other}
use Rattle.laws_base.proofs.OrderNumbers.{state_of}
use Rattle.laws_base.proofs.LoggedParts.{Parts, parts_of, checkpoint_parts}
use Rattle.laws_base.proofs.CopiesUnderWay.{copy_listed}
use Rattle.laws_base.proofs.CountsLogged.{next_grows}
use Rattle.laws_base.proofs.CountsKept.{counts_kept}
use Rattle.laws_base.proofs.RowsFit.{granted_logged, same_row}
use Rattle.laws_base.proofs.RowsLogged.{IsRowedLog}
use Rattle.laws_base.proofs.RowsKept.{checkpoint_same}

-- a row that is gone stays so as owners leave

none_left : (rows : Rows) (x q : ℕ) (o : Option ChunkRow) → table.get rows x ≡ o → table.get rows q ≡ None → table.get (left_by rows x o) q ≡ None
none_left rows x q None at none = none
none_left rows x q (Some row) at none =
    on_cond (λ (t : Rows). table.get t q ≡ None) (nat_le row.references 1) (table.remove rows x) (table.insert rows x (row_left row)) (λ _. gone_other rows x q other ∙ none) (λ _. put_other rows x (row_left row) q other ∙ none)
  where
    other : q ≡ x → ⊥
    other same = none_some row (sym none ∙ ap (λ (n : ℕ). table.get rows n) same ∙ at)

none_all_left : (rows : Rows) (hs : List ℕ) (q : ℕ) → table.get rows q ≡ None → table.get (leave_all rows hs) q ≡ None
none_all_left rows [] q none = none
none_all_left rows (x ∷ hs) q none = none_all_left (leave_one rows x) hs q (none_left rows x q (table.get rows x) refl none)

module _ (handle : ℕ) where
  abbrev IsTaken : Table Copy → ChunkRow → Type 0
  IsTaken copies row = (1 ≤ row.granted) ⊎ ((c : Copy) × (table.get copies handle ≡ Some c))

  -- the chunk's handle was used, and its row says that something was granted, or it is a copy under way
  abbrev pub IsBegun : Logged → Type 0
  IsBegun l = (handle < l.next_handle) × ((row : ChunkRow) → table.get (rows_of l) handle ≡ Some row → IsTaken l.copies row)

  abbrev pub IsLogBegun : LogDisk → Type 0
  IsLogBegun d = IsBegun (state_of d)

  taken_on : (from to : Table Copy) (old row : ChunkRow) → old.granted ≡ row.granted → table.get to handle ≡ table.get from handle → IsTaken from old → IsTaken to row
  taken_on from to old row granted same (inl some) = inl (omega (arith, granted, some))
  taken_on from to old row granted same (inr c) = inr (c.0, same ∙ c.1)

  -- rows that stay but for their owners, while the chunk's copy stays
  owned_begun : (l k : Logged) → OwnedFrom (rows_of l) (rows_of k) → l.next_handle ≤ k.next_handle → ((row : ChunkRow) → table.get (rows_of k) handle ≡ Some row → table.get k.copies handle ≡ table.get l.copies handle) → IsBegun l → IsBegun k
  owned_begun l k f more same h =
      let low = h.0 in (
        omega (arith, low, more),
        λ row is. let was = f handle row is in taken_on l.copies k.copies was.0 row (ap (λ (r : ChunkRow). r.granted) was.2) (same row is) (h.1 was.0 was.1),
      )

  -- copies that are given up go with their rows
  removed_same : (l : Logged) (handles : List ℕ) (row : ChunkRow) → table.get (removed_all (rows_of l) handles) handle ≡ Some row → table.get (removed_all l.copies handles) handle ≡ table.get l.copies handle
  removed_same l handles row is = by_list (list_any (eq_by_cmp nat_cmp handle) handles) refl
    where
      by_list : (b : Bool) → list_any (eq_by_cmp nat_cmp handle) handles ≡ b → table.get (removed_all l.copies handles) handle ≡ table.get l.copies handle
      by_list true gone = none_some row (sym (now_gone (rows_of l) handles handle gone) ∙ is)
      by_list false stays = removed_other l.copies handles handle stays

  pub begun_less : (l : Logged) (handles : List ℕ) → IsBegun l → IsBegun (copies_given_up l handles)
  begun_less l handles h = owned_begun l (copies_given_up l handles) (removed_owned (rows_of l) handles) (omega arith) (λ row is. removed_same l handles row is) h

  -- once all copies are given up
  all_granted : (l : Logged) → IsBegun l → (row : ChunkRow) → table.get (rows_of (all_copies_given_up l)) handle ≡ Some row → 1 ≤ row.granted
  all_granted l h row is = by_list (list_any (eq_by_cmp nat_cmp handle) (table.keys l.copies)) refl
    where
      by_list : (b : Bool) → list_any (eq_by_cmp nat_cmp handle) (table.keys l.copies) ≡ b → 1 ≤ row.granted
      by_list true gone = none_some row (sym (now_gone (rows_of l) (table.keys l.copies) handle gone) ∙ is)
      by_list false stays =
          elim (h.1 row (removed_cases (rows_of l) (table.keys l.copies) handle row is)) [
            | inl some ↦ some
            | inr c ↦ absurd (true≢false (sym (copy_listed l.copies handle c.0 c.1) ∙ stays))
          ]

  -- after a record

  put_begun : (l k n : Logged) (at : ℕ) (new : ChunkRow) → rows_of n ≡ table.insert (rows_of k) at new → at ≡ l.next_handle → k.next_handle ≤ n.next_handle → table.get n.copies handle ≡ table.get k.copies handle → IsBegun l → IsBegun k → IsBegun n
  put_begun l k n at new put next more same g h =
      let used = g.0 in
      let low = h.0 in (
        omega (arith, low, more),
        λ row is. elim (put_cases (rows_of k) at new handle row (sym (ap (λ (rows : Rows). table.get rows handle) put) ∙ is)) [
          | inl key ↦ absurd (let there = key.0 in omega (arith, used, there, next))
          | inr before ↦ taken_on k.copies n.copies row row refl same (h.1 row before)
        ],
      )

  pub begun_after : (l k : Logged) (r : Record) → IsDue (Unit {0}) l r → IsNoGrantRecord r → IsBegun l → IsBegun k → IsBegun (after_record k r)
  begun_after l k (log.AddChunk file chunk) due plain g h =
      put_begun l k (after_record k (log.AddChunk file chunk)) chunk.0 (added_row k.table file.0) refl due.0 (next_grows l k (log.AddChunk file chunk) due) refl g h
  begun_after l k (log.CopyStart file index source copy copy_version) due plain g h =
      let r : Record = log.CopyStart file index source copy copy_version in
      let new : Copy = record { file = file.0; index = index; source = source.0 } in
      put_begun l k (after_record k r) copy.0 (copied_row k.table source.0 copy_version.0) refl due.0 (next_grows l k r due)
      (put_other k.copies copy.0 new handle (λ same. let used = g.0 in let next = due.0 in absurd (omega (arith, used, next, same)))) g h
  begun_after l k (log.Issue chunk number) due plain g h = (
    h.0,
    λ row is. elim (changed_cases (rows_of k) chunk.0 (λ r. record r { issued = number.0 }) (table.get (rows_of k) chunk.0) handle row refl is) [
      | inl now ↦ taken_on k.copies k.copies now.0 row (ap (λ (r : ChunkRow). r.granted) now.3) refl (h.1 now.0 (ap (λ (n : ℕ). table.get (rows_of k) n) now.1 ∙ now.2))
      | inr before ↦ h.1 row before.1
    ],
  )
  begun_after l k (log.Snapshot client n from to) due plain g h =
      owned_begun k (after_record k (log.Snapshot client n from to)) (all_copied_owned k.table k.next_file (copied_entries k.names from to)) (omega arith) (λ row is. refl) h
  begun_after l k (log.Expired file) due plain g h =
      owned_begun k (after_record k (log.Expired file)) (expired_owned k file) (omega arith)
      (λ row is. by_list row is (list_any (eq_by_cmp nat_cmp handle) (copies_for_file k file.0)) refl) h
    where
      by_list : (row : ChunkRow) → table.get (rows_of (after_record k (log.Expired file))) handle ≡ Some row → (b : Bool) → list_any (eq_by_cmp nat_cmp handle) (copies_for_file k file.0) ≡ b
          → table.get (removed_all k.copies (copies_for_file k file.0)) handle ≡ table.get k.copies handle
      by_list row is true gone =
          none_some row
          (sym (none_all_left (removed_all (rows_of k) (copies_for_file k file.0)) (handles_of k.table file.0) handle (now_gone (rows_of k) (copies_for_file k file.0) handle gone)) ∙ is)
      by_list row is false stays = removed_other k.copies (copies_for_file k file.0) handle stays
  begun_after l k (log.Grant chunk number primary members) due plain g h = absurd plain
  begun_after l k (log.Counters next_file next_handle epoch) due plain g h = absurd due
  begun_after l k (log.FileItem path file shape handles) due plain g h = absurd due
  begun_after l k (log.ChunkItem chunk granted issued primary members) due plain g h = absurd due
  begun_after l k other due plain g h = h

  -- the copy of another chunk stays as one is swapped in
  swapped_same : (l : Logged) (chunk : ℕ) (o : Option Copy) → (handle ≡ chunk → ⊥) → table.get (swapped_in l chunk o).copies handle ≡ table.get l.copies handle
  swapped_same l chunk None other = refl
  swapped_same l chunk (Some c) other = gone_other l.copies chunk handle other

  pub begun_grant : (l k : Logged) (chunk number primary : ℕ) (members : List ℕ) → IsDue (Unit {0}) l (grant_record chunk number primary members) → IsBegun k → IsBegun (after_record k (grant_record chunk number primary members))
  begun_grant l k chunk number primary members due h =
      let one : Logged = granted_logged k chunk number primary members in
      let low = h.0 in
      let grown = next_grows l k (grant_record chunk number primary members) due in (
        omega (arith, low, grown),
        λ row is.
            let was = swapped_owned one chunk (table.get k.copies chunk) handle row is in
            let kept : (was.0).granted ≡ row.granted = ap (λ (r : ChunkRow). r.granted) was.2 in
            elim (changed_cases (rows_of k) chunk (row_granted number primary members) (table.get (rows_of k) chunk) handle was.0 refl was.1) [
              | inl now ↦
                  let above = due.2 tt in
                  let granted = ap (λ (r : ChunkRow). r.granted) now.3 in
                  inl (omega (arith, above, granted, kept))
              | inr before ↦ taken_on k.copies (after_record k (grant_record chunk number primary members)).copies was.0 row kept (swapped_same one chunk (table.get k.copies chunk) before.0) (h.1 was.0 before.1)
            ],
      )

  pub begun_ended : (l : Logged) (chunk moment : ℕ) → IsBegun l → IsBegun (record l { table = set_end l.table chunk moment })
  begun_ended l chunk moment h = (
    h.0,
    λ row is. elim (changed_cases (rows_of l) chunk (λ r. record r { lease_end = moment }) (table.get (rows_of l) chunk) handle row refl is) [
      | inl now ↦ taken_on l.copies l.copies now.0 row (ap (λ (r : ChunkRow). r.granted) now.3) refl (h.1 now.0 (ap (λ (n : ℕ). table.get (rows_of l) n) now.1 ∙ now.2))
      | inr before ↦ h.1 row before.1
    ],
  )

  -- a copy that begins
  pub begun_copy : (k : Logged) (file : FileId) (index : ℕ) (source : Handle) (number : ℕ) → IsBegun (after_record k (log.CopyStart file index source (handle_of handle) (version_of number)))
  begun_copy k file index source number =
      let new : Copy = record { file = file.0; index = index; source = source.0 } in
      let high = le-max_right k.next_handle (handle + 1) in
      (omega (arith, high), λ row is. inr (new, put_there k.copies handle new handle refl))

  -- a checkpoint has what the state has
  pub begun_checkpoint : (l : Logged) (d : LogDisk) → parts_of l ≡ parts_of (state_of d) → Tree l.names → IsRowedLog l (state_of d) → IsBegun l → IsBegun (all_copies_given_up l) × IsLogBegun (log_changed d (WriteCheckpoint (checkpoint_of l)))
  begun_checkpoint l d same tree tied h =
      let low = h.0 in
      let next : l.next_handle ≡ (after_records first_logged (checkpoint_of l)).next_handle = ap (λ (p : Parts). p.next_handle) (sym (checkpoint_parts l tree)) in (
        begun_less l (table.keys l.copies) h,
        (
          omega (arith, low, next),
          λ row is.
              let was = same_row (table.get (rows_of (all_copies_given_up l)) handle) (table.get (rows_of (after_records first_logged (checkpoint_of l))) handle) row
              (checkpoint_same l (state_of d) handle tied (counts_kept.checkpoint l (state_of d) same tree tied.base)) is in
              let some = all_granted l h was.0 was.1 in
              let granted : (was.0).granted ≡ row.granted = ap (λ (r : ChunkRow). r.granted) was.2 in
              inl (omega (arith, some, granted)),
        ),
      )

  pub started_begun : (config : Config) (count : ℕ) (found : LogDisk) (moment : ℕ) → IsLogBegun found → IsBegun (started_master config count found moment).logged
  started_begun config count found moment h = (
    h.0,
    λ row at.
        let was = mapped_cases (row_after_restart config moment) (rows_of (replayed found)) handle row at in
        let some = all_granted (state_of found) h was.0 was.1 in
        let granted : (was.0).granted ≡ row.granted = same_granted was.0 ∙ ap (λ (r : ChunkRow). r.granted) was.2 in
        inl (omega (arith, some, granted)),
  )
    where
      same_granted : (row : ChunkRow) → row.granted ≡ (row_after_restart config moment row).granted
      same_granted row = refl
