-- Rows of chunks whose granted version and members fit something, after each change.
use Rattle.std.proofs.Common.{◌≡◌, ℕ, List, [], Some, refl, sym, ap, subst, ◌∙◌, inl, inr}
use Rattle.std.specs.FinMap as table
use Rattle.gfs_types.specs.declared.config.Config.{Config}
use Rattle.log_records.specs.declared.record.Record.{Record}
use Rattle.log_records.specs.declared.record.Record.TheVariants as log
use Rattle.chunk_table.specs.ChunkTable.{ChunkRow, row_granted, changed_by, added_row, copied_row}
use Rattle.protocol.specs.Tables.{map_values}
use Rattle.relaxed_file.specs.Names.{copied_entries}
use Rattle.protocol.specs.Logged.{Logged, LogDisk, after_record, swapped_in, replayed}
use Rattle.protocol.specs.MasterStep.{row_after_restart}
use Rattle.laws_base.proofs.Steps.{put_cases}
use Rattle.laws_base.proofs.Entries.{mapped_cases}
use Rattle.laws_base.proofs.ChunkRows.{Rows, rows_of, OwnedFrom, removed_owned, all_copied_owned, swapped_owned, expired_owned}
use Rattle.laws_base.proofs.VersionsAhead.{changed_cases}
use Rattle.laws_base.proofs.MasterMoves.{IsDue}
use Rattle.laws_base.proofs.OrderNumbers.{state_of}
use Rattle.laws_base.proofs.RowsSame.{AreSameAt}
use Rattle.laws_base.proofs.RowsFit.{granted_logged, same_row}

-- the same granted version and members
abbrev pub HaveSameGrant : ChunkRow → ChunkRow → Type 0
HaveSameGrant old row = (old.granted ≡ row.granted) × (old.members ≡ row.members)

-- each row was there with these
abbrev pub GrantedFrom : Rows → Rows → Type 0
GrantedFrom before after = (handle : ℕ) (row : ChunkRow) → table.get after handle ≡ Some row → (old : ChunkRow) × (table.get before handle ≡ Some old) × HaveSameGrant old row

pub owned_granted : (t u : Rows) → OwnedFrom t u → GrantedFrom t u
owned_granted t u f handle row is = let was = f handle row is in (was.0, was.1, (ap (λ (r : ChunkRow). r.granted) was.2, ap (λ (r : ChunkRow). r.members) was.2))

pub changed_granted : (rows : Rows) (chunk : ℕ) (change : ChunkRow → ChunkRow) → ((row : ChunkRow) → HaveSameGrant row (change row)) → GrantedFrom rows (changed_by rows chunk change (table.get rows chunk))
changed_granted rows chunk change same handle row is =
    elim (changed_cases rows chunk change (table.get rows chunk) handle row refl is) [
      | inl now ↦ (
        now.0,
        ap (λ (k : ℕ). table.get rows k) now.1 ∙ now.2,
        ((same now.0).0 ∙ ap (λ (r : ChunkRow). r.granted) now.3, (same now.0).1 ∙ ap (λ (r : ChunkRow). r.members) now.3),
      )
      | inr before ↦ (row, before.1, (refl, refl))
    ]

restart_same : (config : Config) (moment : ℕ) (row : ChunkRow) → HaveSameGrant row (row_after_restart config moment row)
restart_same config moment row = (refl, refl)

-- what a restart reads
pub started_granted : (config : Config) (found : LogDisk) (moment : ℕ) → GrantedFrom (rows_of (state_of found)) (map_values (row_after_restart config moment) (rows_of (replayed found)))
started_granted config found moment handle row is =
    let mapped = mapped_cases (row_after_restart config moment) (rows_of (replayed found)) handle row is in
    let was = removed_owned (rows_of (state_of found)) (table.keys (state_of found).copies) handle mapped.0 mapped.1 in
    let same = restart_same config moment mapped.0 in (
      was.0,
      was.1,
      (ap (λ (r : ChunkRow). r.granted) was.2 ∙ same.0 ∙ ap (λ (r : ChunkRow). r.granted) mapped.2, ap (λ (r : ChunkRow). r.members) was.2 ∙ same.1 ∙ ap (λ (r : ChunkRow). r.members) mapped.2),
    )

abbrev pub AreFit : (ℕ → ℕ → List ℕ → Type 0) → Rows → Type 0
AreFit F rows = (handle : ℕ) (row : ChunkRow) → table.get rows handle ≡ Some row → F handle row.granted row.members

module _ (F : ℕ → ℕ → List ℕ → Type 0) where
  moved : (handle : ℕ) (old row : ChunkRow) → HaveSameGrant old row → F handle old.granted old.members → F handle row.granted row.members
  moved handle old row same h = subst (λ (n : ℕ). F handle n row.members) same.0 (subst (λ (ms : List ℕ). F handle old.granted ms) same.1 h)

  pub fit_from : (t u : Rows) → GrantedFrom t u → AreFit F t → AreFit F u
  fit_from t u f h handle row is = let was = f handle row is in moved handle was.0 row was.2 (h handle was.0 was.1)

  pub fit_same : (t u : Rows) → ((q : ℕ) → AreSameAt t u q) → AreFit F t → AreFit F u
  fit_same t u same h handle row is =
      let was = same_row (table.get t handle) (table.get u handle) row (same handle) is in
      moved handle was.0 row (ap (λ (r : ChunkRow). r.granted) was.2, ap (λ (r : ChunkRow). r.members) was.2) (h handle was.0 was.1)

  fit_put : (rows : Rows) (at : ℕ) (new : ChunkRow) → F at new.granted new.members → AreFit F rows → AreFit F (table.insert rows at new)
  fit_put rows at new fits h handle row is =
      elim (put_cases rows at new handle row is) [
        | inl same ↦ subst (λ (r : ChunkRow). F handle r.granted r.members) same.1 (subst (λ (q : ℕ). F q new.granted new.members) (sym same.0) fits)
        | inr before ↦ h handle row before
      ]

  fit_changed : (rows : Rows) (chunk : ℕ) (change : ChunkRow → ChunkRow) → ((old : ChunkRow) → table.get rows chunk ≡ Some old → F chunk (change old).granted (change old).members) → AreFit F rows
      → AreFit F (changed_by rows chunk change (table.get rows chunk))
  fit_changed rows chunk change fits h handle row is =
      elim (changed_cases rows chunk change (table.get rows chunk) handle row refl is) [
        | inl now ↦ subst (λ (r : ChunkRow). F handle r.granted r.members) now.3 (subst (λ (q : ℕ). F q (change now.0).granted (change now.0).members) (sym now.1) (fits now.0 now.2))
        | inr before ↦ h handle row before.1
      ]

  -- what is asked of a record
  abbrev pub IsFitRecord : Record → Type 0
  IsFitRecord (log.AddChunk file handle) = F handle.0 0 []
  IsFitRecord (log.CopyStart file index handle copy copy_version) = F copy.0 0 []
  IsFitRecord (log.Grant handle version primary members) = F handle.0 version.0 members
  IsFitRecord other = Unit {0}

  pub fit_after : (l k : Logged) (r : Record) → IsDue (Unit {0}) l r → IsFitRecord r → AreFit F (rows_of k) → AreFit F (rows_of (after_record k r))
  fit_after l k (log.AddChunk file handle) due new h = fit_put (rows_of k) handle.0 (added_row k.table file.0) new h
  fit_after l k (log.CopyStart file index handle copy copy_version) due new h = fit_put (rows_of k) copy.0 (copied_row k.table handle.0 copy_version.0) new h
  fit_after l k (log.Issue handle version) due new h = fit_changed (rows_of k) handle.0 (λ row. record row { issued = version.0 }) (λ old is. h handle.0 old is) h
  fit_after l k (log.Grant handle version primary members) due new h =
      let one : Logged = granted_logged k handle.0 version.0 primary.0 members in
      fit_from (rows_of one) (rows_of (swapped_in one handle.0 (table.get k.copies handle.0)))
      (owned_granted (rows_of one) (rows_of (swapped_in one handle.0 (table.get k.copies handle.0))) (swapped_owned one handle.0 (table.get k.copies handle.0)))
      (fit_changed (rows_of k) handle.0 (row_granted version.0 primary.0 members) (λ old is. new) h)
  fit_after l k (log.Snapshot client n from to) due new h =
      fit_from (rows_of k) (rows_of (after_record k (log.Snapshot client n from to)))
      (owned_granted (rows_of k) (rows_of (after_record k (log.Snapshot client n from to))) (all_copied_owned k.table k.next_file (copied_entries k.names from to))) h
  fit_after l k (log.Expired file) due new h = fit_from (rows_of k) (rows_of (after_record k (log.Expired file))) (owned_granted (rows_of k) (rows_of (after_record k (log.Expired file))) (expired_owned k file)) h
  fit_after l k (log.FileItem path file shape handles) due new h = absurd due
  fit_after l k (log.ChunkItem handle granted issued primary members) due new h = absurd due
  fit_after l k other due new h = h
