-- The size of a chunk, by its row at a master that is up and by its files in each log: it stays, once the handle was used.
use Rattle.std.proofs.Common.{◌≡◌, ◌⊎◌, ℕ, ◌≤◌, ◌<◌, Option, Some, None, refl, sym, ap, subst, ◌∙◌, inl, inr, arith}
use Rattle.std.specs.FinMap as table
use Rattle.gfs_types.specs.declared.shape.Shape.{Shape}
use Rattle.chunk_table.specs.ChunkTable.{ChunkRow, shape_of}
use Rattle.protocol.specs.Tables.{Table}
use Rattle.protocol.specs.Logged.{Logged, Copy, after_record}
use Rattle.laws_base.proofs.Steps.{none_some}
use Rattle.laws_base.proofs.FilesNamed.{Files, HasFile}
use Rattle.laws_base.proofs.ChunkRows.{rows_of}
use Rattle.laws_base.proofs.MasterMoves.{grant_record}
use Rattle.laws_base.proofs.Owners.{AreCounted, chunks_at, stands, stands_in_one, references_of, chunk_row}
use Rattle.laws_base.proofs.RowsSame.{IsOwned}
use Rattle.laws_base.proofs.RowsLogged.{IsFoundRows}
use Rattle.laws_base.proofs.ShapesKept.{IsShaped, shape_at, stands_somewhere}
use Rattle.laws_base.proofs.ShapesTold.{AreTold, IsFoundTold, IsToldLog, shape_is}
use Rattle.laws_versions.proofs.GrantedSizes.{AreSized, same_sized, swapped_sized, sized_after}
use Rattle.laws_versions.proofs.HandleIndexes.{KeepsFiles, AreRowsOpened}

-- rows, and the shapes of files

module _ (l : Logged) (counted : AreCounted l.table) (shaped : IsShaped l) (told : AreTold l.table.shapes) where
  -- a shape of a file that is there has 64 bytes at least
  file_told : (file : ℕ) → HasFile l.table.files file → 64 ≤ (shape_of l.table file).chunk
  file_told file has = let its = shaped.files.known file has in subst (λ (s : Shape). 64 ≤ s.chunk) (sym (shape_is l.table file its.0 its.1)) (told file its.0 its.1)

  -- a row that is owned has the shape of a file in which its handle stands
  pub row_of_file : (q : ℕ) (row : ChunkRow) → table.get (rows_of l) q ≡ Some row → IsOwned (table.get (rows_of l) q)
      → (file : ℕ) × (1 ≤ stands q (chunks_at l.table.files file)) × (row.shape ≡ shape_of l.table file)
  row_of_file q row is owned =
      let some : 1 ≤ row.references = subst IsOwned is owned in
      let refs = counted q in
      let whole = ap references_of is in
      let at = stands_in_one l.table.files q (omega (arith, some, refs, whole)) in
      (at.0, at.1, shaped.files.chunks at.0 q row at.1 is)

  -- each row has the shape of a file: of one in which its handle stands, or of that for which it is a copy
  pub row_in_file : (q : ℕ) (row : ChunkRow) → table.get (rows_of l) q ≡ Some row → (table.get l.copies q ≡ None → IsOwned (table.get (rows_of l) q))
      → ((c : Copy) → table.get l.copies q ≡ Some c → HasFile l.table.files c.file) → (file : ℕ) × HasFile l.table.files file × (row.shape ≡ shape_of l.table file)
  row_in_file q row is owned there = by_copy (table.get l.copies q) refl
    where
      by_copy : (o : Option Copy) → table.get l.copies q ≡ o → (file : ℕ) × HasFile l.table.files file × (row.shape ≡ shape_of l.table file)
      by_copy None none = let of = row_of_file q row is (owned none) in (of.0, stands_somewhere l.table.files of.0 q of.1, of.2)
      by_copy (Some c) some = (c.file, there c some, shaped.copies q c row some is)

  pub row_told : (q : ℕ) (row : ChunkRow) → table.get (rows_of l) q ≡ Some row → (table.get l.copies q ≡ None → IsOwned (table.get (rows_of l) q))
      → ((c : Copy) → table.get l.copies q ≡ Some c → HasFile l.table.files c.file) → 64 ≤ row.shape.chunk
  row_told q row is owned there = let of = row_in_file q row is owned there in subst (λ (s : Shape). 64 ≤ s.chunk) (sym of.2) (file_told of.0 of.1)

-- a handle that was used, of a chunk of this size

module _ (handle size : ℕ) where
  abbrev pub IsLogSized : Logged → Type 0
  IsLogSized l = (handle < l.next_handle) × ((file : ℕ) → 1 ≤ stands handle (chunks_at l.table.files file) → (shape_of l.table file).chunk ≡ size)

  abbrev pub IsStateSized : Logged → Type 0
  IsStateSized l = (handle < l.next_handle) × ((row : ChunkRow) → table.get (rows_of l) handle ≡ Some row → row.shape.chunk ≡ size)

  sized_later : (l k : Logged) → AreSized l k → IsStateSized l → IsStateSized k
  sized_later l k later h = (
    let low = later.next in let used = h.0 in omega (arith, low, used),
    λ row is. elim (later.rows handle row is) [ inl old ↦ sym old.2 ∙ h.1 old.0 old.1 | inr new ↦ absurd (let used = h.0 in omega (arith, used, new)) ],
  )

  -- files of the log have the shapes of the state, which its rows have
  sized_logs : (l k : Logged) → l.table.files ≡ k.table.files → l.next_handle ≡ k.next_handle → IsToldLog l k → IsStateSized l → IsLogSized k
  sized_logs l k files next told h = (subst (λ (n : ℕ). handle < n) next h.0, each)
    where
      each : (file : ℕ) → 1 ≤ stands handle (chunks_at k.table.files file) → (shape_of k.table file).chunk ≡ size
      each file at =
          let here : 1 ≤ stands handle (chunks_at l.table.files file) = subst (λ (f : Files). 1 ≤ stands handle (chunks_at f file)) (sym files) at in
          let has : HasFile l.table.files file = stands_somewhere l.table.files file handle here in
          let row = chunk_row l.table file handle told.base.base.counted here in
          let its = told.base.here.files.known file has in
          let there : table.get k.table.shapes file ≡ Some its.0 = told.same file its.0 has its.1 in
          ap (λ (s : Shape). s.chunk)
          (shape_is k.table file its.0 there ∙ sym (shape_is l.table file its.0 its.1) ∙ sym (told.base.here.files.chunks file handle row.0 here row.1))
          ∙ h.1 row.0 row.1

  sized_same : (l k : Logged) → l.table.files ≡ k.table.files → l.table.shapes ≡ k.table.shapes → l.next_handle ≡ k.next_handle → IsLogSized l → IsLogSized k
  sized_same l k files shapes next h = (
    subst (λ (n : ℕ). handle < n) next h.0,
    λ file at.
        ap (λ (t : Table Shape). (shape_at t file).chunk) (sym shapes) ∙ h.1 file (subst (λ (f : Files). 1 ≤ stands handle (chunks_at f file)) (sym files) at),
  )

  -- rows that a master reads are of files
  sized_opens : (l k : Logged) → l.next_handle ≡ k.next_handle → IsFoundRows l → IsFoundTold l → AreRowsOpened l k → IsLogSized l → IsStateSized k
  sized_opens l k next rows told opened h = (subst (λ (n : ℕ). handle < n) next h.0, each)
    where
      each : (row : ChunkRow) → table.get (rows_of k) handle ≡ Some row → row.shape.chunk ≡ size
      each row is =
          let old = opened handle row is in
          let owned : IsOwned (table.get (rows_of l) handle) = rows.owned handle old.2 in
          let of = row_of_file l rows.base.counted told.base.shaped told.told handle old.0 old.1 owned in
          let least = row_told l rows.base.counted told.base.shaped told.told handle old.0 old.1 (λ none. owned) (λ c some. none_some c (sym old.2 ∙ some)) in
          let same : (old.0).shape ≡ row.shape = elim (old.3) [ inl same ↦ same | inr none ↦ absurd (omega (arith, least, none)) ] in
          ap (λ (s : Shape). s.chunk) (sym same ∙ of.2) ∙ h.1 of.0 of.1

  pub size_keeps : KeepsFiles IsStateSized IsLogSized
  size_keeps =
      record {
        logs = λ l k files next told h. sized_logs l k files next told h;
        log_same = λ l k files shapes next h. sized_same l k files shapes next h;
        opens = λ l k files next none rows told opened h. sized_opens l k next rows told opened h;
        less = λ l k files next fewer keeps h. (
          subst (λ (n : ℕ). handle < n) next h.0,
          λ row is. let old = keeps handle row is in sym (ap (λ (s : Shape). s.chunk) old.2) ∙ h.1 old.0 old.1,
        );
        after = λ l r due plain h. sized_later l (after_record l r) (sized_after l l r due (same_sized l)) h;
        granted = λ l q version primary members h.
            sized_later l (after_record l (grant_record q version primary members)) (swapped_sized l l q version primary members (table.get l.copies q) (same_sized l)) h;
      }
