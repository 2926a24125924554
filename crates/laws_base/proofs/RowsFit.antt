-- Rows of the table of chunks whose granted version and primary fit something, after each change.
use Rattle.std.proofs.Common.{◌≡◌, ℕ, List, Option, Some, None, refl, sym, ap, subst, ◌∙◌, inl, inr}
use Rattle.std.specs.Prelude.{option_map}
use Rattle.std.specs.FinMap as table
use Rattle.log_records.specs.declared.record.Record.{Record}
use Rattle.log_records.specs.declared.record.Record.TheVariants as log
use Rattle.relaxed_file.specs.Names.{copied_entries}
use Rattle.chunk_table.specs.ChunkTable.{ChunkRow, changed_by, row_granted, added_row, copied_row}
use Rattle.protocol.specs.Logged.{Logged, after_record, swapped_in}
use Rattle.laws_base.proofs.Steps.{none_some, same_some, put_cases}
use Rattle.laws_base.proofs.ChunkRows.{Rows, rows_of, From, all_copied_from, swapped_from, expired_from}
use Rattle.laws_base.proofs.VersionsAhead.{changed_cases}
use Rattle.laws_base.proofs.MasterMoves.{IsDue}
use Rattle.laws_base.proofs.NamesReached.{without_end}
use Rattle.laws_base.proofs.RowsSame.{IsSameRow, AreSameAt}

abbrev pub AreFit : (ℕ → ℕ → ℕ → Type 0) → Rows → Type 0
AreFit F rows = (handle : ℕ) (row : ChunkRow) → table.get rows handle ≡ Some row → F handle row.granted row.primary

abbrev pub granted_logged : Logged → ℕ → ℕ → ℕ → List ℕ → Logged
granted_logged k handle version primary members = record k { table = record k.table { chunks = changed_by (rows_of k) handle (row_granted version primary members) (table.get (rows_of k) handle) } }

pub same_row : (o p : Option ChunkRow) (row : ChunkRow) → IsSameRow o p → p ≡ Some row → (old : ChunkRow) × (o ≡ Some old) × (without_end old ≡ without_end row)
same_row None p row same is = none_some (without_end row) (same ∙ ap (λ (x : Option ChunkRow). option_map without_end x) is)
same_row (Some old) p row same is = (old, refl, same_some (without_end old) (without_end row) (same ∙ ap (λ (x : Option ChunkRow). option_map without_end x) is))

module _ (F : ℕ → ℕ → ℕ → Type 0) where
  moved : (handle : ℕ) (old row : ChunkRow) → old.granted ≡ row.granted → old.primary ≡ row.primary → F handle old.granted old.primary → F handle row.granted row.primary
  moved handle old row granted primary h = subst (λ (n : ℕ). F handle n row.primary) granted (subst (λ (n : ℕ). F handle old.granted n) primary h)

  pub fit_from : (t u : Rows) → From t u → AreFit F t → AreFit F u
  fit_from t u f h handle row is = let was = f handle row is in moved handle was.old row was.granted was.primary (h handle was.old was.at)

  fit_put : (rows : Rows) (at : ℕ) (new : ChunkRow) → F at new.granted new.primary → AreFit F rows → AreFit F (table.insert rows at new)
  fit_put rows at new fits h handle row is =
      elim (put_cases rows at new handle row is) [
        | inl same ↦ subst (λ (r : ChunkRow). F handle r.granted r.primary) same.1 (subst (λ (q : ℕ). F q new.granted new.primary) (sym same.0) fits)
        | inr before ↦ h handle row before
      ]

  fit_changed : (rows : Rows) (chunk : ℕ) (change : ChunkRow → ChunkRow) → ((old : ChunkRow) → table.get rows chunk ≡ Some old → F chunk (change old).granted (change old).primary) → AreFit F rows
      → AreFit F (changed_by rows chunk change (table.get rows chunk))
  fit_changed rows chunk change fits h handle row is =
      elim (changed_cases rows chunk change (table.get rows chunk) handle row refl is) [
        | inl now ↦ subst (λ (r : ChunkRow). F handle r.granted r.primary) now.3 (subst (λ (q : ℕ). F q (change now.0).granted (change now.0).primary) (sym now.1) (fits now.0 now.2))
        | inr before ↦ h handle row before.1
      ]

  pub fit_same : (t u : Rows) → ((q : ℕ) → AreSameAt t u q) → AreFit F t → AreFit F u
  fit_same t u same h handle row is =
      let was = same_row (table.get t handle) (table.get u handle) row (same handle) is in
      moved handle was.0 row (ap (λ (r : ChunkRow). r.granted) was.2) (ap (λ (r : ChunkRow). r.primary) was.2) (h handle was.0 was.1)

  -- what is asked of a record
  abbrev pub IsFitRecord : Record → Type 0
  IsFitRecord (log.AddChunk file handle) = F handle.0 0 0
  IsFitRecord (log.CopyStart file index handle copy copy_version) = F copy.0 0 0
  IsFitRecord (log.Grant handle version primary members) = F handle.0 version.0 primary.0
  IsFitRecord other = Unit {0}

  pub fit_after : (l k : Logged) (r : Record) → IsDue (Unit {0}) l r → IsFitRecord r → AreFit F (rows_of k) → AreFit F (rows_of (after_record k r))
  fit_after l k (log.AddChunk file handle) due new h = fit_put (rows_of k) handle.0 (added_row k.table file.0) new h
  fit_after l k (log.CopyStart file index handle copy copy_version) due new h = fit_put (rows_of k) copy.0 (copied_row k.table handle.0 copy_version.0) new h
  fit_after l k (log.Issue handle version) due new h = fit_changed (rows_of k) handle.0 (λ row. record row { issued = version.0 }) (λ old is. h handle.0 old is) h
  fit_after l k (log.Grant handle version primary members) due new h =
      let one : Logged = granted_logged k handle.0 version.0 primary.0 members in
      fit_from (rows_of one) (rows_of (swapped_in one handle.0 (table.get k.copies handle.0))) (swapped_from one handle.0 (table.get k.copies handle.0))
      (fit_changed (rows_of k) handle.0 (row_granted version.0 primary.0 members) (λ old is. new) h)
  fit_after l k (log.Snapshot client n from to) due new h = fit_from (rows_of k) (rows_of (after_record k (log.Snapshot client n from to))) (all_copied_from k.table k.next_file (copied_entries k.names from to)) h
  fit_after l k (log.Expired file) due new h = fit_from (rows_of k) (rows_of (after_record k (log.Expired file))) (expired_from k file) h
  fit_after l k (log.FileItem path file shape handles) due new h = absurd due
  fit_after l k (log.ChunkItem handle granted issued primary members) due new h = absurd due
  fit_after l k other due new h = h
