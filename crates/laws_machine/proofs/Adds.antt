-- A chunk that is added, and a file that is created.
use Rattle.std.proofs.Common.{◌≡◌, ◌⊎◌, ℕ, suc, ◌<◌, List, [], ◌∷◌, ◌++◌, length, Option, Some, None, refl, sym, ap, subst, ◌∙◌, inl, inr, arith}
use Rattle.std.specs.Prelude.{unwrap_or, option_and_then, option_map}
use Rattle.gfs_types.specs.declared.ids.FileId.{FileId}
use Rattle.gfs_types.specs.declared.ids.Handle.{Handle}
use Rattle.log_records.specs.declared.record.Record.TheVariants as log
use Rattle.chunk_table.specs.ChunkTable.{ChunkRow, file_of, handles_of, chunk_of, add_file, added_row}
use Rattle.relaxed_file.specs.Order.{CallId}
use Rattle.relaxed_file.specs.Machine.{Machine, Chunk, FileState, Asked, new_chunk, new_file, put, chunk_at, chunk_count}
use Rattle.relaxed_file.specs.Chunks.{chunk_added}
use Rattle.relaxed_file.specs.Run.{Add, after, asked_file}
use Rattle.relaxed_file.proofs.Tables as tables
use Rattle.protocol.specs.Tables.{element_at}
use Rattle.protocol.specs.Logged.{after_record}
use Rattle.laws_base.proofs.Steps as steps
use Rattle.laws_base.proofs.MembersRecorded.{kept_place, place_below}
use Rattle.protocol_invariant.specs.Actions.{Spot}
use Rattle.laws_machine.specs.ChunksAlike.{ChunkSides, chunk_in, entries_in, StandsAt, StoodAt, IsRoundOpen, IsFileAlike, HasAlike, IsGoneSpot, AreChunksAlike, NoneEnds, KeepsChunks}
use Rattle.laws_machine.specs.ChunkRecords.{IsUnused, AddedChunksAreAdded, NewFilesHaveNoChunk}
use Rattle.laws_machine.proofs.Sides.{listed, still_open, still_alike, last_cases, one_longer}
use Rattle.gfs_types.specs.declared.shape.Shape.{Shape}

module _ (k : ChunkSides) (file : FileId) (handle : Handle) (handles : List ℕ) (id : CallId) (h : AreChunksAlike k) (is : file_of k.log.table file.0 ≡ Some handles) (unused : IsUnused k handle.0) where
  abbrev added : ChunkSides
  added = record { log = after_record k.log (log.AddChunk file handle); gone = k.gone; orders = k.orders; machine = chunk_added k.machine id file.0 }

  abbrev state : FileState
  state = record (k.machine.files file.0) { chunk_count = suc (chunk_count k.machine file.0); chunks = put (chunk_count k.machine file.0) new_chunk (k.machine.files file.0).chunks }

  old : IsFileAlike k file.0 handles
  old = h.there file.0 handles is

  longer : handles_of k.log.table file.0 ++ handle.0 ∷ [] ≡ handles ++ handle.0 ∷ []
  longer = ap (λ (o : Option (List ℕ)). unwrap_or o [] ++ handle.0 ∷ []) is

  row_stays : (other : ℕ) → (other ≡ handle.0 → ⊥) → chunk_of added.log.table other ≡ chunk_of k.log.table other
  row_stays other is_other = steps.put_other k.log.table.chunks handle.0 (added_row k.log.table file.0) other is_other

  -- whoever has a row is another handle
  is_older : (other : ℕ) (row : ChunkRow) → chunk_of k.log.table other ≡ Some row → other ≡ handle.0 → ⊥
  is_older other row has same = steps.none_some row (sym unused.no_row ∙ ap (λ (n : ℕ). chunk_of k.log.table n) (sym same) ∙ has)

  here : (n : ℕ) → n ≡ file.0 → added.machine.files n ≡ state
  here n same = tables.put_is file.0 state k.machine.files n same

  elsewhere : (n : ℕ) → (n ≡ file.0 → ⊥) → added.machine.files n ≡ k.machine.files n
  elsewhere n other = tables.put_other file.0 state k.machine.files n other

  -- the file's chunks before the new one stay
  chunk_stays : (n index : ℕ) → index < length handles → n ≡ file.0 → (added.machine.files n).chunks index ≡ (k.machine.files n).chunks index
  chunk_stays n index low same =
      ap (λ (s : FileState). s.chunks index) (here n same)
      ∙ tables.put_other (chunk_count k.machine file.0) new_chunk (k.machine.files file.0).chunks index (λ last. let count = old.count in omega (arith, low, last, count))
      ∙ ap (λ (f : ℕ). (k.machine.files f).chunks index) (sym same)

  alike_stays : (n index other : ℕ) → HasAlike k other (chunk_at k.machine n index) → (added.machine.files n).chunks index ≡ (k.machine.files n).chunks index → HasAlike added other (chunk_at added.machine n index)
  alike_stays n index other has same = (has.0, row_stays other (is_older other has.0 has.1) ∙ has.1, still_alike k added other has.0 has.0 _ _ has.2 refl same refl)

  its_chunks : (index other : ℕ) → element_at (handles ++ handle.0 ∷ []) index ≡ Some other → HasAlike added other (chunk_at added.machine file.0 index)
  its_chunks index other at = elim (last_cases handles handle.0 index other at) [
    | inl before ↦ alike_stays file.0 index other (old.chunks index other before) (chunk_stays file.0 index (place_below handles index other before) refl)
    | inr last ↦
        let chunk_is : chunk_at added.machine file.0 index ≡ new_chunk = ap (λ (s : FileState). s.chunks index) (here file.0 refl)
        ∙ tables.put_is (chunk_count k.machine file.0) new_chunk (k.machine.files file.0).chunks index (last.0 ∙ sym old.count) in (
          added_row k.log.table file.0,
          steps.put_there k.log.table.chunks handle.0 (added_row k.log.table file.0) other (sym last.1),
          record {
            order = ap (λ (n : ℕ). entries_in k.orders n) (sym last.1) ∙ unused.no_entry ∙ ap (λ (c : Chunk). c.order) (sym chunk_is);
            round = ap (λ (c : Chunk). c.round) chunk_is;
          },
        )
  ]

  the_file : IsFileAlike added file.0 (handles ++ handle.0 ∷ [])
  the_file = record {
    numbered = old.numbered;
    count = ap (λ (s : FileState). s.chunk_count) (here file.0 refl) ∙ ap suc old.count ∙ one_longer handles handle.0;
    chunks = its_chunks;
  }

  another_file : (n : ℕ) (hs : List ℕ) → (n ≡ file.0 → ⊥) → file_of k.log.table n ≡ Some hs → IsFileAlike added n hs
  another_file n hs other there = record {
    numbered = (h.there n hs there).numbered;
    count = ap (λ (s : FileState). s.chunk_count) (elsewhere n other) ∙ (h.there n hs there).count;
    chunks = λ index x at. alike_stays n index x ((h.there n hs there).chunks index x at) (ap (λ (s : FileState). s.chunks index) (elsewhere n other));
  }

  each_file : (n : ℕ) (hs : List ℕ) → file_of added.log.table n ≡ Some hs → IsFileAlike added n hs
  each_file n hs there = elim (steps.put_split k.log.table.files file.0 (handles_of k.log.table file.0 ++ handle.0 ∷ []) n hs there) [
    | inl now ↦ subst (λ (f : ℕ). IsFileAlike added f hs) (sym now.0) (subst (λ (xs : List ℕ). IsFileAlike added file.0 xs) (sym longer ∙ now.1) the_file)
    | inr before ↦ another_file n hs before.0 before.1
  ]

  gone_apart : (s : Spot) → file_of k.log.table s.file ≡ None → s.file ≡ file.0 → ⊥
  gone_apart s none same = steps.none_some handles (sym none ∙ ap (λ (n : ℕ). file_of k.log.table n) same ∙ is)

  gone_stays : (other : ℕ) (s : Spot) → k.gone other ≡ Some s → IsGoneSpot added s
  gone_stays other s was =
      let spot = h.gone other s was in
      record {
        numbered = spot.numbered;
        collected = steps.put_other k.log.table.files file.0 (handles_of k.log.table file.0 ++ handle.0 ∷ []) s.file (gone_apart s spot.collected) ∙ spot.collected;
        count = subst (λ (f : FileState). s.index < f.chunk_count) (sym (elsewhere s.file (gone_apart s spot.collected))) spot.count;
      }

  place_stays : (other : ℕ) (s : Spot) → StandsAt k.log.table other s → (s.file ≡ file.0) ⊎ (s.file ≡ file.0 → ⊥) → StandsAt added.log.table other s
  place_stays other s at (inl same) =
      ap (λ (o : Option (List ℕ)). element_at (unwrap_or o []) s.index) (steps.put_there k.log.table.files file.0 (handles_of k.log.table file.0 ++ handle.0 ∷ []) s.file same)
      ∙ kept_place (handles_of k.log.table file.0) (handle.0 ∷ []) s.index other (ap (λ (n : ℕ). element_at (handles_of k.log.table n) s.index) (sym same) ∙ at)
  place_stays other s at (inr apart) =
      ap (λ (o : Option (List ℕ)). element_at (unwrap_or o []) s.index) (steps.put_other k.log.table.files file.0 (handles_of k.log.table file.0 ++ handle.0 ∷ []) s.file apart) ∙ at

  same_chunk : (other : ℕ) (s : Spot) → StandsAt k.log.table other s → (s.file ≡ file.0) ⊎ (s.file ≡ file.0 → ⊥) → chunk_in added.machine s ≡ chunk_in k.machine s
  same_chunk other s at (inl same) =
      chunk_stays s.file s.index (place_below handles s.index other (ap (λ (o : Option (List ℕ)). element_at (unwrap_or o []) s.index) (sym (ap (λ (n : ℕ). file_of k.log.table n) same ∙ is)) ∙ at)) same
  same_chunk other s at (inr apart) = ap (λ (f : FileState). f.chunks s.index) (elsewhere s.file apart)

  round_stays : (other version : ℕ) (s : Spot) → IsRoundOpen k other version s → StandsAt k.log.table other s ⊎ StoodAt k other s → IsRoundOpen added other version s
  round_stays other version s was_open (inl at) =
      let where_ = steps.same_or_not s.file file.0 in
      still_open k added other version s was_open (inl (place_stays other s at where_)) refl (same_chunk other s at where_)
  round_stays other version s was_open (inr stood) =
      let apart = gone_apart s (h.gone other s stood.0).collected in
      still_open k added other version s was_open
      (inr (stood.0, row_stays other (λ same. steps.none_some s (sym unused.no_spot ∙ ap k.gone (sym same) ∙ stood.0)) ∙ stood.1)) refl (ap (λ (f : FileState). f.chunks s.index) (elsewhere s.file apart))

  keeps : KeepsChunks NoneEnds k added
  keeps = record { alike = record { there = each_file; gone = gone_stays; apart = h.apart }; rounds = λ other version s was_open. inr (round_stays other version s was_open was_open.place) }

pub added_chunks_are_added : AddedChunksAreAdded
added_chunks_are_added k file handle handles id asked h is unused may =
    let named : asked_file k.machine id ≡ Some file.0 = ap (λ (o : Option Asked). option_and_then (λ (a : Asked). a.file) o) may.0 ∙ may.1 in
    let machine_is : after k.machine (Add id) ≡ chunk_added k.machine id file.0 = ap (λ (o : Option ℕ). unwrap_or (option_map (chunk_added k.machine id) o) k.machine) named in
    record {
      allowed = ((asked, file.0, may), tt);
      keeps = subst (λ (m : Machine). KeepsChunks NoneEnds k (record { log = after_record k.log (log.AddChunk file handle); gone = k.gone; orders = k.orders; machine = m })) (sym machine_is)
          (keeps k file handle handles id h is unused);
    }

module _ (k : ChunkSides) (told made : Shape) (h : AreChunksAlike k) (next_is : k.log.next_file ≡ suc k.machine.file_count) where
  abbrev created : ChunkSides
  created = record k {
    log = record k.log { table = add_file k.log.table k.log.next_file told; next_file = suc k.log.next_file };
    machine = record k.machine { file_count = suc k.machine.file_count; files = put (suc k.machine.file_count) (new_file made) k.machine.files };
  }

  below_is_other : (n : ℕ) → n < k.log.next_file → n ≡ k.log.next_file → ⊥
  below_is_other n low same = absurd (omega (arith, low, same))

  file_stays : (n : ℕ) → n < k.log.next_file → created.machine.files n ≡ k.machine.files n
  file_stays n low = tables.put_other (suc k.machine.file_count) (new_file made) k.machine.files n (λ same. let is = next_is in absurd (omega (arith, low, same, is)))

  new_one : IsFileAlike created k.log.next_file []
  new_one = record {
    numbered = omega arith;
    count = ap (λ (s : FileState). s.chunk_count) (tables.put_is (suc k.machine.file_count) (new_file made) k.machine.files k.log.next_file next_is);
    chunks = λ index x at. steps.none_some x at;
  }

  each_there : (n : ℕ) (hs : List ℕ) → file_of created.log.table n ≡ Some hs → IsFileAlike created n hs
  each_there n hs there = elim (steps.put_split k.log.table.files k.log.next_file [] n hs there) [
    | inl now ↦ subst (λ (f : ℕ). IsFileAlike created f hs) (sym now.0) (subst (λ (xs : List ℕ). IsFileAlike created k.log.next_file xs) now.1 new_one)
    | inr before ↦
        let was = h.there n hs before.1 in
        record {
          numbered = let low = was.numbered in omega (arith, low);
          count = ap (λ (s : FileState). s.chunk_count) (file_stays n was.numbered) ∙ was.count;
          chunks = λ index x at.
              let has = was.chunks index x at in
              (has.0, has.1, still_alike k created x has.0 has.0 _ _ has.2 refl (ap (λ (s : FileState). s.chunks index) (file_stays n was.numbered)) refl);
        }
  ]

  each_gone : (other : ℕ) (s : Spot) → k.gone other ≡ Some s → IsGoneSpot created s
  each_gone other s was =
      let spot = h.gone other s was in
      record {
        numbered = let low = spot.numbered in omega (arith, low);
        collected = steps.put_other k.log.table.files k.log.next_file [] s.file (below_is_other s.file spot.numbered) ∙ spot.collected;
        count = subst (λ (f : FileState). s.index < f.chunk_count) (sym (file_stays s.file spot.numbered)) spot.count;
      }

  each_round : (other version : ℕ) (s : Spot) → IsRoundOpen k other version s → StandsAt k.log.table other s ⊎ StoodAt k other s → IsRoundOpen created other version s
  each_round other version s was_open (inl at) =
      let found = listed k.log.table other s at in
      let low = (h.there s.file found.0 found.1).numbered in
      still_open k created other version s was_open
      (inl (ap (λ (o : Option (List ℕ)). element_at (unwrap_or o []) s.index) (steps.put_other k.log.table.files k.log.next_file [] s.file (below_is_other s.file low)) ∙ at)) refl
      (ap (λ (f : FileState). f.chunks s.index) (file_stays s.file low))
  each_round other version s was_open (inr stood) = still_open k created other version s was_open (inr stood) refl (ap (λ (f : FileState). f.chunks s.index) (file_stays s.file (h.gone other s stood.0).numbered))

pub new_files_have_no_chunk : NewFilesHaveNoChunk
new_files_have_no_chunk k told made h next_is = record {
  alike = record { there = each_there k told made h next_is; gone = each_gone k told made h next_is; apart = h.apart };
  rounds = λ other version s was_open. inr (each_round k told made h next_is other version s was_open was_open.place);
}
