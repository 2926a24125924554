-- A number of a chunk that was issued stays issued: in the state, in the log, after each record and from a checkpoint that is read again.
use Rattle.std.proofs.Common.{◌≡◌, ℕ, ◌+◌, ◌≤◌, ◌<◌, List, Some, refl, sym, ap, ◌∙◌, inl, inr, arith}
use Rattle.std.specs.FinMap as table
use Rattle.std.proofs.Math.Nat.{le-max_left, le-max_right}
use Rattle.gfs_types.specs.declared.config.Config.{Config}
use Rattle.gfs_types.specs.declared.ids.FileId.{FileId}
use Rattle.gfs_types.specs.declared.ids.Handle.{Handle}
use Rattle.protocol.specs.Sending.{handle_of, version_of}
use Rattle.log_records.specs.declared.record.Record.{Record}
use Rattle.log_records.specs.declared.record.Record.TheVariants as log
use Rattle.relaxed_file.specs.Names.{copied_entries}
use Rattle.relaxed_file.proofs.NamesTree.{Tree}
use Rattle.chunk_table.specs.ChunkTable.{ChunkRow, row_granted, set_end, added_row, copied_row}
use Rattle.protocol.specs.Logged.{Logged, LogDisk, WriteCheckpoint, first_logged, log_changed, after_record, after_records, checkpoint_of, copies_given_up, all_copies_given_up, replayed}
use Rattle.protocol.specs.MasterStep.{row_after_restart, started_master}
use Rattle.laws_base.proofs.Steps.{same_some, put_cases, put_there, removed_cases}
use Rattle.laws_base.proofs.Entries.{mapped_cases}
use Rattle.laws_base.proofs.ChunkRows.{Rows, rows_of, OwnedFrom, removed_owned, all_copied_owned, swapped_owned, expired_owned}
use Rattle.laws_base.proofs.VersionsAhead.{changed_cases}
use Rattle.laws_base.proofs.MasterMoves.{grant_record, IsDue, IsNoGrantRecord}
use Rattle.laws_base.proofs.OrderNumbers.{state_of}
use Rattle.laws_base.proofs.LoggedParts.{Parts, parts_of, checkpoint_parts}
use Rattle.laws_base.proofs.CountsLogged.{next_grows}
use Rattle.laws_base.proofs.CountsKept.{counts_kept}
use Rattle.laws_base.proofs.RowsFit.{granted_logged, same_row}
use Rattle.laws_base.proofs.RowsSame.{AreSameAt}
use Rattle.laws_base.proofs.RowsLogged.{IsRowedLog}
use Rattle.laws_base.proofs.RowsKept.{checkpoint_same}

module _ (handle version : ℕ) where
  -- the chunk's handle was used, and its row says that the version was issued
  abbrev pub IsPassed : Logged → Type 0
  IsPassed l = (handle < l.next_handle) × ((row : ChunkRow) → table.get (rows_of l) handle ≡ Some row → version ≤ row.issued)

  abbrev pub IsLogPassed : LogDisk → Type 0
  IsLogPassed d = IsPassed (state_of d)

  -- after a record

  owned_passed : (l k : Logged) → OwnedFrom (rows_of l) (rows_of k) → l.next_handle ≤ k.next_handle → IsPassed l → IsPassed k
  owned_passed l k f more h =
      let low = h.0 in (
        omega (arith, low, more),
        λ row is. let was = f handle row is in let bound = h.1 was.0 was.1 in let issued : (was.0).issued ≡ row.issued = ap (λ (r : ChunkRow). r.issued) was.2 in omega (arith, bound, issued),
      )

  put_passed : (l k n : Logged) (at : ℕ) (new : ChunkRow) → rows_of n ≡ table.insert (rows_of k) at new → at ≡ l.next_handle → k.next_handle ≤ n.next_handle → IsPassed l → IsPassed k → IsPassed n
  put_passed l k n at new put next more g h =
      let used = g.0 in
      let low = h.0 in (
        omega (arith, low, more),
        λ row is. elim (put_cases (rows_of k) at new handle row (sym (ap (λ (rows : Rows). table.get rows handle) put) ∙ is)) [
          | inl same ↦ absurd (let there = same.0 in omega (arith, used, there, next))
          | inr before ↦ h.1 row before
        ],
      )

  pub passed_after : (l k : Logged) (r : Record) → IsDue (Unit {0}) l r → IsNoGrantRecord r → IsPassed l → IsPassed k → IsPassed (after_record k r)
  passed_after l k (log.AddChunk file chunk) due plain g h =
      put_passed l k (after_record k (log.AddChunk file chunk)) chunk.0 (added_row k.table file.0) refl due.0 (next_grows l k (log.AddChunk file chunk) due) g h
  passed_after l k (log.CopyStart file index source copy copy_version) due plain g h =
      let r : Record = log.CopyStart file index source copy copy_version in
      put_passed l k (after_record k r) copy.0 (copied_row k.table source.0 copy_version.0) refl due.0 (next_grows l k r due) g h
  passed_after l k (log.Issue chunk number) due plain g h = (
    h.0,
    λ row is. elim (changed_cases (rows_of k) chunk.0 (λ r. record r { issued = number.0 }) (table.get (rows_of k) chunk.0) handle row refl is) [
      | inl now ↦
          let low = g.1 due.0 (ap (λ (n : ℕ). table.get (rows_of l) n) now.1 ∙ due.1) in
          let next = due.2 in
          let issued = ap (λ (r : ChunkRow). r.issued) now.3 in
          omega (arith, low, next, issued)
      | inr before ↦ h.1 row before.1
    ],
  )
  passed_after l k (log.Snapshot client n from to) due plain g h =
      owned_passed k (after_record k (log.Snapshot client n from to)) (all_copied_owned k.table k.next_file (copied_entries k.names from to)) (omega arith) h
  passed_after l k (log.Expired file) due plain g h = owned_passed k (after_record k (log.Expired file)) (expired_owned k file) (omega arith) h
  passed_after l k (log.Grant chunk number primary members) due plain g h = absurd plain
  passed_after l k (log.Counters next_file next_handle epoch) due plain g h = absurd due
  passed_after l k (log.FileItem path file shape handles) due plain g h = absurd due
  passed_after l k (log.ChunkItem chunk granted issued primary members) due plain g h = absurd due
  passed_after l k other due plain g h = h

  pub passed_grant : (l k : Logged) (chunk number primary : ℕ) (members : List ℕ) → IsDue (Unit {0}) l (grant_record chunk number primary members) → IsPassed k → IsPassed (after_record k (grant_record chunk number primary members))
  passed_grant l k chunk number primary members due h =
      let one : Logged = granted_logged k chunk number primary members in
      let low = h.0 in
      let grown = next_grows l k (grant_record chunk number primary members) due in (
        omega (arith, low, grown),
        λ row is.
            let was = swapped_owned one chunk (table.get k.copies chunk) handle row is in
            let kept : (was.0).issued ≡ row.issued = ap (λ (r : ChunkRow). r.issued) was.2 in
            elim (changed_cases (rows_of k) chunk (row_granted number primary members) (table.get (rows_of k) chunk) handle was.0 refl was.1) [
              | inl now ↦
                  let bound = h.1 now.0 (ap (λ (n : ℕ). table.get (rows_of k) n) now.1 ∙ now.2) in
                  let issued = ap (λ (r : ChunkRow). r.issued) now.3 in
                  let high = le-max_left (now.0).issued number in
                  omega (arith, bound, issued, high, kept)
              | inr before ↦ let bound = h.1 was.0 before.1 in omega (arith, bound, kept)
            ],
      )

  pub passed_ended : (l : Logged) (chunk moment : ℕ) → IsPassed l → IsPassed (record l { table = set_end l.table chunk moment })
  passed_ended l chunk moment h = (
    h.0,
    λ row is. elim (changed_cases (rows_of l) chunk (λ r. record r { lease_end = moment }) (table.get (rows_of l) chunk) handle row refl is) [
      | inl now ↦ let bound = h.1 now.0 (ap (λ (n : ℕ). table.get (rows_of l) n) now.1 ∙ now.2) in let issued = ap (λ (r : ChunkRow). r.issued) now.3 in omega (arith, bound, issued)
      | inr before ↦ h.1 row before.1
    ],
  )

  pub passed_same : (l k : Logged) → AreSameAt (rows_of l) (rows_of k) handle → l.next_handle ≡ k.next_handle → IsPassed l → IsPassed k
  passed_same l k same next h =
      let low = h.0 in (
        omega (arith, low, next),
        λ row is.
            let was = same_row (table.get (rows_of l) handle) (table.get (rows_of k) handle) row same is in
            let bound = h.1 was.0 was.1 in
            let issued : (was.0).issued ≡ row.issued = ap (λ (r : ChunkRow). r.issued) was.2 in
            omega (arith, bound, issued),
      )

  -- a number that is issued, and that of a copy that is begun
  pub passed_issue : (k : Logged) (chunk number : ℕ) → chunk ≡ handle → number ≡ version → chunk < k.next_handle → IsPassed (after_record k (log.Issue (handle_of chunk) (version_of number)))
  passed_issue k chunk number key same low = (
    omega (arith, low, key),
    λ row is. elim (changed_cases (rows_of k) chunk (λ r. record r { issued = number }) (table.get (rows_of k) chunk) handle row refl is) [
      | inl now ↦ let issued = ap (λ (r : ChunkRow). r.issued) now.3 in omega (arith, issued, same)
      | inr before ↦ absurd (before.0 (sym key))
    ],
  )

  pub passed_copy : (k : Logged) (file : FileId) (index : ℕ) (source : Handle) (copy number : ℕ) → copy ≡ handle → number ≡ version → IsPassed (after_record k (log.CopyStart file index source (handle_of copy) (version_of number)))
  passed_copy k file index source copy number key same =
      let high = le-max_right k.next_handle (copy + 1) in (
        omega (arith, high, key),
        λ row is.
            let issued = ap (λ (r : ChunkRow). r.issued) (same_some (copied_row k.table source.0 number) row (sym (put_there (rows_of k) copy (copied_row k.table source.0 number) handle (sym key)) ∙ is)) in
            omega (arith, issued, same),
      )

  -- copies that are given up
  pub passed_less : (l : Logged) (handles : List ℕ) → IsPassed l → IsPassed (copies_given_up l handles)
  passed_less l handles h = owned_passed l (copies_given_up l handles) (removed_owned (rows_of l) handles) (omega arith) h

  -- a checkpoint has what the state has
  pub passed_checkpoint : (l : Logged) (d : LogDisk) → parts_of l ≡ parts_of (state_of d) → Tree l.names → IsRowedLog l (state_of d) → IsPassed l → IsPassed (all_copies_given_up l) × IsLogPassed (log_changed d (WriteCheckpoint (checkpoint_of l)))
  passed_checkpoint l d same tree tied h =
      let less : IsPassed (all_copies_given_up l) = passed_less l (table.keys l.copies) h in (
        less,
        passed_same (all_copies_given_up l) (after_records first_logged (checkpoint_of l)) (checkpoint_same l (state_of d) handle tied (counts_kept.checkpoint l (state_of d) same tree tied.base))
            (ap (λ (p : Parts). p.next_handle) (sym (checkpoint_parts l tree))) less,
      )

  pub started_passed : (config : Config) (count : ℕ) (found : LogDisk) (moment : ℕ) → IsLogPassed found → IsPassed (started_master config count found moment).logged
  started_passed config count found moment h = (
    h.0,
    λ row at.
        let all : Logged = state_of found in
        let was = mapped_cases (row_after_restart config moment) (rows_of (replayed found)) handle row at in
        let bound = h.1 was.0 (removed_cases (rows_of all) (table.keys all.copies) handle was.0 was.1) in
        let issued : (was.0).issued ≡ row.issued = same_issued was.0 ∙ ap (λ (r : ChunkRow). r.issued) was.2 in
        omega (arith, bound, issued),
  )
    where
      same_issued : (row : ChunkRow) → row.issued ≡ (row_after_restart config moment row).issued
      same_issued row = refl
