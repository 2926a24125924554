-- A record lets handles go from where they stand alone, and only as a file expires.
use Rattle.std.proofs.Common.{◌≡◌, ◌⊎◌, ℕ, zero, suc, ◌+◌, Bool, true, false, cond, List, [], ◌∷◌, Option, Some, None, refl, ap, subst, inl, inr, arith}
use Rattle.std.specs.Prelude.{◌==◌, option_map}
use Rattle.std.proofs.lemmas.Bool.{eqb-true}
use Rattle.log_records.specs.declared.record.Record.{Record}
use Rattle.log_records.specs.declared.record.Record.TheVariants as log
use Rattle.chunk_table.specs.ChunkTable.{handles_of}
use Rattle.protocol.specs.Tables.{element_at}
use Rattle.protocol.specs.Logged.{Logged}
use Rattle.laws_base.proofs.Steps.{none_some, same_some}
use Rattle.protocol_invariant.specs.Actions.{Spot, index_in, first_spot}
use Rattle.laws_machine.specs.ChunksAlike.{ChunkSides, StandsAt}
use Rattle.laws_machine.specs.ChunkRecords.{gone_after}
use Rattle.laws_machine.specs.MasterSteps.{gone_at, GoesAt, AreGoneBy}

-- where a handle is found in a list, it stands
found_stands : (handle : ℕ) (hs : List ℕ) (start found : ℕ) → index_in handle hs start ≡ Some found → (n : ℕ) × (found ≡ start + n) × (element_at hs n ≡ Some handle)
found_stands handle [] start found is = none_some found is
found_stands handle (h ∷ hs) start found is = by_test (h == handle) refl is (λ now. found_stands handle hs (suc start) found now)
  where
    by_test : (b : Bool) → (h == handle) ≡ b → cond b (Some start) (index_in handle hs (suc start)) ≡ Some found
        → (index_in handle hs (suc start) ≡ Some found → (n : ℕ) × (found ≡ suc start + n) × (element_at hs n ≡ Some handle)) → (n : ℕ) × (found ≡ start + n) × (element_at (h ∷ hs) n ≡ Some handle)
    by_test true e now later = let same = same_some start found now in (zero, omega (arith, same), ap (λ (x : ℕ). Some x) (eqb-true h handle e))
    by_test false e now later =
        let rest = later now in
        let sum = rest.1 in
        (suc rest.0, omega (arith, sum), rest.2)

abbrev spot_of : ℕ → ℕ → Spot
spot_of file index = record { file = file; index = index }

file_goes : (l : Logged) (gone : ℕ → Option Spot) (file handle : ℕ) (s : Spot) → gone_after file (handles_of l.table file) gone handle ≡ Some s → (gone handle ≡ Some s) ⊎ StandsAt l.table handle s
file_goes l gone file handle s was = by_index (index_in handle (handles_of l.table file) 0) refl was
  where
    by_index : (o : Option ℕ) → index_in handle (handles_of l.table file) 0 ≡ o → first_spot (option_map (spot_of file) o) (gone handle) ≡ Some s → (gone handle ≡ Some s) ⊎ StandsAt l.table handle s
    by_index None found now = inl now
    by_index (Some index) found now =
        let same : spot_of file index ≡ s = same_some (spot_of file index) s now in
        let place = found_stands handle (handles_of l.table file) 0 index found in
        let number : place.0 ≡ index = let sum = place.1 in omega (arith, sum) in
        inr (subst (λ (x : Spot). StandsAt l.table handle x) same (subst (λ (n : ℕ). element_at (handles_of l.table file) n ≡ Some handle) number place.2))

-- where handles stood after a record
pub goes_at : (l : Logged) (gone : ℕ → Option Spot) (r : Record) (handle : ℕ) (s : Spot) → gone_at l gone r handle ≡ Some s → (gone handle ≡ Some s) ⊎ GoesAt l r handle s
goes_at l gone (log.Expired file) handle s was = file_goes l gone file.0 handle s was
goes_at l gone (log.Epoch epoch) handle s was = inl was
goes_at l gone (log.Mkdir client n path) handle s was = inl was
goes_at l gone (log.Rmdir client n path) handle s was = inl was
goes_at l gone (log.Create client n file shape path) handle s was = inl was
goes_at l gone (log.Delete client n moment path) handle s was = inl was
goes_at l gone (log.Rename client n from to) handle s was = inl was
goes_at l gone (log.Snapshot client n from to) handle s was = inl was
goes_at l gone (log.Refused client n refusal) handle s was = inl was
goes_at l gone (log.AddChunk file chunk) handle s was = inl was
goes_at l gone (log.Issue chunk version) handle s was = inl was
goes_at l gone (log.Grant chunk version primary members) handle s was = inl was
goes_at l gone (log.CopyStart file index chunk copy version) handle s was = inl was
goes_at l gone (log.Counters next_file next_handle epoch) handle s was = inl was
goes_at l gone (log.DirItem path) handle s was = inl was
goes_at l gone (log.FileItem path file shape handles) handle s was = inl was
goes_at l gone (log.ChunkItem chunk granted issued primary members) handle s was = inl was
goes_at l gone (log.ClientItem client n refusal) handle s was = inl was

-- none goes
pub none_goes : (Goes : ℕ → Spot → Type 0) (k : ChunkSides) → AreGoneBy Goes k k
none_goes Goes k handle s was = inl was

-- what goes on from other sides
pub goes_on : (E F T : ℕ → Spot → Type 0) (k i j : ChunkSides) → ((handle : ℕ) (s : Spot) → E handle s → T handle s) → ((handle : ℕ) (s : Spot) → F handle s → T handle s) → AreGoneBy E k i → AreGoneBy F i j → AreGoneBy T k j
goes_on E F T k i j e f first second handle s was =
    elim (second handle s was) [
      | inl before ↦ elim (first handle s before) [ inl old ↦ inl old | inr goes ↦ inr (e handle s goes) ]
      | inr goes ↦ inr (f handle s goes)
    ]
