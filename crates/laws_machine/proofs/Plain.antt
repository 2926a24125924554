-- What changes nothing of chunks, and rows of handles that no file has.
use Rattle.std.proofs.Common.{◌≡◌, ◌⊎◌, ℕ, ◌<◌, ◌≤◌, List, [], Option, Some, refl, sym, ap, subst, ◌∙◌, inl, inr, arith}
use Rattle.std.specs.FinMap as table
use Rattle.std.specs.Prelude.{unwrap_or}
use Rattle.relaxed_file.specs.Machine.{FileState}
use Rattle.protocol.specs.Tables.{Table, element_at}
use Rattle.protocol.specs.Logged.{Logged}
use Rattle.protocol.specs.Observer.{Placed}
use Rattle.chunk_table.specs.ChunkTable.{file_of, chunk_of}
use Rattle.laws_base.proofs.Steps.{same_or_not}
use Rattle.protocol_invariant.specs.Actions.{Spot}
use Rattle.laws_machine.specs.ChunksAlike.{ChunkSides, chunk_in, entries_in, StandsAt, StoodAt, IsRoundOpen, AreChunksAlike}
use Rattle.laws_machine.specs.ChunkRecords.{AreSameChunks, OtherChangesKeepChunks, RowsOfNoFileMayChange}
use Rattle.laws_machine.proofs.Sides.{stands_in, still_open, still_alike, same_grant, same_none}

same_files : (k j : ChunkSides) → AreSameChunks k j → (file : ℕ) (handles : List ℕ) → file_of j.log.table file ≡ Some handles → file_of k.log.table file ≡ Some handles
same_files k j same file handles is = ap (λ (fs : Table (List ℕ)). table.get fs file) (sym same.lists) ∙ is

same_entries : (k j : ChunkSides) → AreSameChunks k j → (handle : ℕ) → entries_in j.orders handle ≡ entries_in k.orders handle
same_entries k j same handle = ap (λ (os : Table (List Placed)). entries_in os handle) same.orders

same_chunk : (k j : ChunkSides) → AreSameChunks k j → (s : Spot) → chunk_in j.machine s ≡ chunk_in k.machine s
same_chunk k j same s = ap (λ (fs : ℕ → FileState). (fs s.file).chunks s.index) same.files

same_place : (k j : ChunkSides) → AreSameChunks k j → (handle : ℕ) (s : Spot) → StandsAt k.log.table handle s ⊎ StoodAt k handle s → StandsAt j.log.table handle s ⊎ StoodAt j handle s
same_place k j same handle s (inl at) = inl (ap (λ (fs : Table (List ℕ)). element_at (unwrap_or (table.get fs s.file) []) s.index) same.lists ∙ at)
same_place k j same handle s (inr stood) = inr (ap (λ (g : ℕ → Option Spot). g handle) same.gone ∙ stood.0, same_none k.log j.log same.grants handle stood.1)

pub other_changes_keep_chunks : OtherChangesKeepChunks
other_changes_keep_chunks k j h same = record {
  alike = record {
    there = λ file handles is.
        let old = h.there file handles (same_files k j same file handles is) in
        record {
          numbered = let below = old.numbered in let more = same.next in omega (arith, below, more);
          count = ap (λ (fs : ℕ → FileState). (fs file).chunk_count) same.files ∙ old.count;
          chunks = λ index handle at.
              let chunk = old.chunks index handle at in
              let row = same_grant k.log j.log same.grants handle chunk.0 chunk.1 in
              (row.0, row.1, still_alike k j handle chunk.0 row.0 _ _ chunk.2 (same_entries k j same handle) (same_chunk k j same (record { file = file; index = index })) row.2);
        };
    gone = λ handle s is.
        let old = h.gone handle s (ap (λ (g : ℕ → Option Spot). g handle) (sym same.gone) ∙ is) in
        record {
          numbered = let below = old.numbered in let more = same.next in omega (arith, below, more);
          collected = ap (λ (fs : Table (List ℕ)). table.get fs s.file) same.lists ∙ old.collected;
          count = subst (λ (fs : ℕ → FileState). s.index < (fs s.file).chunk_count) (sym same.files) old.count;
        };
    apart = λ handle other s is other_is. h.apart handle other s (ap (λ (g : ℕ → Option Spot). g handle) (sym same.gone) ∙ is) (ap (λ (g : ℕ → Option Spot). g other) (sym same.gone) ∙ other_is);
  };
  rounds = λ handle version s was_open. inr (still_open k j handle version s was_open (same_place k j same handle s was_open.place) (same_entries k j same handle) (same_chunk k j same s));
}

module _ (k : ChunkSides) (handle : ℕ) (l : Logged) (h : AreChunksAlike k) (placeless : (s : Spot) → StandsAt k.log.table handle s → ⊥)
    (lists : l.table.files ≡ k.log.table.files) (rows : (other : ℕ) → (other ≡ handle → ⊥) → chunk_of l.table other ≡ chunk_of k.log.table other) (next : k.log.next_file ≤ l.next_file) where
  abbrev after : ChunkSides
  after = record k { log = l }

  there_before : (file : ℕ) (handles : List ℕ) → file_of l.table file ≡ Some handles → file_of k.log.table file ≡ Some handles
  there_before file handles is = ap (λ (fs : Table (List ℕ)). table.get fs file) (sym lists) ∙ is

  alike_after : AreChunksAlike after
  alike_after = record {
    there = λ file handles is.
        let was = there_before file handles is in
        let old = h.there file handles was in
        record {
          numbered = let below = old.numbered in let more = next in omega (arith, below, more);
          count = old.count;
          chunks = λ index other at.
              let chunk = old.chunks index other at in
              let is_other : other ≡ handle → ⊥ = λ same. placeless (record { file = file; index = index }) (subst (λ (n : ℕ). StandsAt k.log.table n (record { file = file; index = index })) same (stands_in k.log.table file index other handles was at)) in
              (chunk.0, rows other is_other ∙ chunk.1, still_alike k after other chunk.0 chunk.0 _ _ chunk.2 refl refl refl);
        };
    gone = λ other s is.
        let old = h.gone other s is in
        record { numbered = let below = old.numbered in let more = next in omega (arith, below, more); collected = ap (λ (fs : Table (List ℕ)). table.get fs s.file) lists ∙ old.collected; count = old.count };
    apart = h.apart;
  }

  rounds_after : (other version : ℕ) (s : Spot) → IsRoundOpen k other version s → (other ≡ handle) ⊎ IsRoundOpen after other version s
  rounds_after other version s was_open = by_handle (same_or_not other handle) was_open.place
    where
      by_handle : (other ≡ handle) ⊎ (other ≡ handle → ⊥) → StandsAt k.log.table other s ⊎ StoodAt k other s → (other ≡ handle) ⊎ IsRoundOpen after other version s
      by_handle (inl same) place = inl same
      by_handle (inr is_other) (inl at) = inr (still_open k after other version s was_open (inl (ap (λ (fs : Table (List ℕ)). element_at (unwrap_or (table.get fs s.file) []) s.index) lists ∙ at)) refl refl)
      by_handle (inr is_other) (inr stood) = inr (still_open k after other version s was_open (inr (stood.0, rows other is_other ∙ stood.1)) refl refl)

pub rows_of_no_file_may_change : RowsOfNoFileMayChange
rows_of_no_file_may_change k handle l h placeless lists rows next = record { alike = alike_after k handle l h placeless lists rows next; rounds = rounds_after k handle l h placeless lists rows next }
