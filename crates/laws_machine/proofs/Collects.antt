-- A file that is collected.
use Rattle.std.proofs.Common.{◌≡◌, ◌⊎◌, ℕ, zero, suc, ◌+◌, ◌<◌, ◌≤◌, Bool, true, false, cond, List, [], ◌∷◌, Option, Some, None, refl, sym, ap, subst, ◌∙◌, inl, inr, arith}
use Rattle.std.specs.Prelude.{◌==◌, unwrap_or, option_map}
use Rattle.std.proofs.lemmas.Bool.{eqb-true, eqb-false}
use Rattle.gfs_types.specs.declared.ids.FileId.{FileId}
use Rattle.chunk_table.specs.ChunkTable.{ChunkRow, ChunkTable, file_of, handles_of, chunk_of, drop_file}
use Rattle.relaxed_file.specs.Machine.{FileState, chunk_count}
use Rattle.relaxed_file.specs.Run.{expired}
use Rattle.relaxed_file.proofs.Tables as tables
use Rattle.protocol.specs.Tables.{element_at}
use Rattle.laws_base.specs.Laws.{HasAllReferences, times_in}
use Rattle.laws_base.proofs.Steps as steps
use Rattle.laws_base.proofs.MembersRecorded.{place_below}
use Rattle.laws_base.proofs.Owners.{AreCounted, HasRow, stands, times_at_least, chunk_row, dropped_counted, placed_stands}
use Rattle.protocol_invariant.specs.Actions.{Spot, index_in, first_spot}
use Rattle.laws_machine.specs.ChunksAlike.{ChunkSides, chunk_in, StandsAt, StoodAt, IsRoundOpen, IsFileAlike, IsGoneSpot, AreChunksAlike}
use Rattle.laws_machine.specs.ChunkRecords.{gone_after, CollectedFilesKeepTheirChunks}
use Rattle.laws_machine.proofs.Sides.{stands_in, gone_or_there, still_open, still_alike, spot_at, same_spot}
use Rattle.laws_machine.proofs.Rows.{all_left_grant, all_left_none, last_left, counted, one_place}

-- where a handle is found in a list
index_sound : (handle : ℕ) (hs : List ℕ) (start found : ℕ) → index_in handle hs start ≡ Some found → (n : ℕ) × (found ≡ start + n) × (element_at hs n ≡ Some handle)
index_sound handle [] start found is = steps.none_some found is
index_sound handle (h ∷ hs) start found is = by_test (h == handle) refl is (λ now. index_sound handle hs (suc start) found now)
  where
    by_test : (b : Bool) → (h == handle) ≡ b → cond b (Some start) (index_in handle hs (suc start)) ≡ Some found
        → (index_in handle hs (suc start) ≡ Some found → (n : ℕ) × (found ≡ suc start + n) × (element_at hs n ≡ Some handle)) → (n : ℕ) × (found ≡ start + n) × (element_at (h ∷ hs) n ≡ Some handle)
    by_test true e now later = let same = steps.same_some start found now in (zero, omega (arith, same), ap (λ (x : ℕ). Some x) (eqb-true h handle e))
    by_test false e now later =
        let rest = later now in
        let sum = rest.1 in
        (suc rest.0, omega (arith, sum), rest.2)

index_there : (handle : ℕ) (hs : List ℕ) (start n : ℕ) → element_at hs n ≡ Some handle → (found : ℕ) × (index_in handle hs start ≡ Some found)
index_there handle [] start n at = steps.none_some handle at
index_there handle (h ∷ hs) start n at = by_test (h == handle) refl n at (λ place there. index_there handle hs (suc start) place there)
  where
    by_test : (b : Bool) → (h == handle) ≡ b → (n : ℕ) → element_at (h ∷ hs) n ≡ Some handle → ((place : ℕ) → element_at hs place ≡ Some handle → (found : ℕ) × (index_in handle hs (suc start) ≡ Some found))
        → (found : ℕ) × (cond b (Some start) (index_in handle hs (suc start)) ≡ Some found)
    by_test true e n at later = (start, refl)
    by_test false e zero at later = absurd (eqb-false h handle e (steps.same_some h handle at))
    by_test false e (suc n) at later = later n at

many_or_once : (n : ℕ) → 1 ≤ n → (2 ≤ n) ⊎ (n ≡ 1)
many_or_once zero some = absurd (omega (arith, some))
many_or_once (suc zero) some = inr refl
many_or_once (suc (suc n)) some = inl (omega arith)

module _ (k : ChunkSides) (file : FileId) (handles : List ℕ) (moment : ℕ) (h : AreChunksAlike k) (all : HasAllReferences k.log.table)
    (is : file_of k.log.table file.0 ≡ Some handles) where
  abbrev dropped : ChunkTable
  dropped = drop_file k.log.table file.0

  abbrev collected : ChunkSides
  collected = record { log = record k.log { table = dropped }; gone = gone_after file.0 handles k.gone; orders = k.orders; machine = expired k.machine file.0 moment }

  abbrev state : FileState
  state = record (k.machine.files file.0) { is_collected = true }

  handles_are : handles_of k.log.table file.0 ≡ handles
  handles_are = ap (λ (o : Option (List ℕ)). unwrap_or o []) is

  same_count : (n : ℕ) → chunk_count collected.machine n ≡ chunk_count k.machine n
  same_count n = by_file (steps.same_or_not n file.0)
    where
      by_file : (n ≡ file.0) ⊎ (n ≡ file.0 → ⊥) → chunk_count collected.machine n ≡ chunk_count k.machine n
      by_file (inl same) = ap (λ (f : FileState). f.chunk_count) (tables.put_is file.0 state k.machine.files n same) ∙ ap (λ (x : ℕ). (k.machine.files x).chunk_count) (sym same)
      by_file (inr differs) = ap (λ (f : FileState). f.chunk_count) (tables.put_other file.0 state k.machine.files n differs)

  same_chunk : (s : Spot) → chunk_in collected.machine s ≡ chunk_in k.machine s
  same_chunk s = by_file (steps.same_or_not s.file file.0)
    where
      by_file : (s.file ≡ file.0) ⊎ (s.file ≡ file.0 → ⊥) → chunk_in collected.machine s ≡ chunk_in k.machine s
      by_file (inl same) = ap (λ (f : FileState). f.chunks s.index) (tables.put_is file.0 state k.machine.files s.file same) ∙ ap (λ (x : ℕ). (k.machine.files x).chunks s.index) (sym same)
      by_file (inr differs) = ap (λ (f : FileState). f.chunks s.index) (tables.put_other file.0 state k.machine.files s.file differs)

  are_counted : AreCounted k.log.table
  are_counted = counted k.log.table all

  each_file : (n : ℕ) (hs : List ℕ) → file_of dropped n ≡ Some hs → IsFileAlike collected n hs
  each_file n hs there =
      let was = steps.gone_split k.log.table.files file.0 n hs there in
      let old = h.there n hs was.1 in
      record {
        numbered = old.numbered;
        count = same_count n ∙ old.count;
        chunks = λ index x at.
            let has = old.chunks index x at in
            let stays : HasRow dropped.chunks x = chunk_row dropped n x (dropped_counted k.log.table file.0 are_counted)
            (subst (λ (xs : List ℕ). 1 ≤ stands x xs) (sym (ap (λ (o : Option (List ℕ)). unwrap_or o []) there)) (placed_stands hs index x at)) in
            let before = all_left_grant k.log.table.chunks (handles_of k.log.table file.0) x stays.0 stays.1 in
            let same_row = steps.same_some before.0 has.0 (sym before.1 ∙ has.1) in
            (stays.0, stays.1, still_alike k collected x has.0 stays.0 _ _ has.2 refl (same_chunk (spot_at n index)) (ap (λ (r : ChunkRow). r.granted) (sym same_row) ∙ before.2));
      }

  -- the gone handles: those of the file, and those that were gone before
  gone_cases : (x : ℕ) (s : Spot) → gone_after file.0 handles k.gone x ≡ Some s → ((s.file ≡ file.0) × (element_at handles s.index ≡ Some x)) ⊎ (k.gone x ≡ Some s)
  gone_cases x s was = by_index (index_in x handles 0) refl was
    where
      by_index : (o : Option ℕ) → index_in x handles 0 ≡ o → first_spot (option_map (spot_at file.0) o) (k.gone x) ≡ Some s → ((s.file ≡ file.0) × (element_at handles s.index ≡ Some x)) ⊎ (k.gone x ≡ Some s)
      by_index None found now = inr now
      by_index (Some index) found now =
          let same : spot_at file.0 index ≡ s = steps.same_some (spot_at file.0 index) s now in
          let place = index_sound x handles 0 index found in
          let number : place.0 ≡ s.index = let sum = place.1 in let at = ap (λ (y : Spot). y.index) same in omega (arith, sum, at) in
          inl (sym (ap (λ (y : Spot). y.file) same), subst (λ (n : ℕ). element_at handles n ≡ Some x) number place.2)

  is_spot : (x : ℕ) (s : Spot) → gone_after file.0 handles k.gone x ≡ Some s → IsGoneSpot collected s
  is_spot x s was = elim (gone_cases x s was) [
    | inl now ↦
        let low = below s.index x now.1 in
        record {
          numbered = subst (λ (n : ℕ). n < k.log.next_file) (sym now.0) (h.there file.0 handles is).numbered;
          collected = steps.gone_there k.log.table.files file.0 s.file now.0;
          count = subst (λ (n : ℕ). s.index < n) (sym (same_count s.file ∙ ap (λ (n : ℕ). chunk_count k.machine n) now.0)) low;
        }
    | inr before ↦
        let old = h.gone x s before in
        record {
          numbered = old.numbered;
          collected = none_still s.file old.collected;
          count = subst (λ (n : ℕ). s.index < n) (sym (same_count s.file)) old.count;
        }
  ]
    where
      below : (index x : ℕ) → element_at handles index ≡ Some x → index < chunk_count k.machine file.0
      below index x at = let low = place_below handles index x at in let count = (h.there file.0 handles is).count in omega (arith, low, count)

      none_still : (n : ℕ) → file_of k.log.table n ≡ None → file_of dropped n ≡ None
      none_still n none = elim (steps.same_or_not n file.0) [
        | inl same ↦ steps.gone_there k.log.table.files file.0 n same
        | inr differs ↦ steps.gone_other k.log.table.files file.0 n differs ∙ none
      ]

  not_both : (x : ℕ) (s : Spot) → s.file ≡ file.0 → k.gone x ≡ Some s → ⊥
  not_both x s same was = steps.none_some handles (sym (h.gone x s was).collected ∙ ap (λ (n : ℕ). file_of k.log.table n) same ∙ is)

  one_each : (x y : ℕ) (s : Spot) → gone_after file.0 handles k.gone x ≡ Some s → gone_after file.0 handles k.gone y ≡ Some s → x ≡ y
  one_each x y s was also = by_cases (gone_cases x s was) (gone_cases y s also)
    where
      by_cases : ((s.file ≡ file.0) × (element_at handles s.index ≡ Some x)) ⊎ (k.gone x ≡ Some s) → ((s.file ≡ file.0) × (element_at handles s.index ≡ Some y)) ⊎ (k.gone y ≡ Some s) → x ≡ y
      by_cases (inl a) (inl b) = steps.same_some x y (sym a.1 ∙ b.1)
      by_cases (inl a) (inr b) = absurd (not_both y s a.0 b)
      by_cases (inr a) (inl b) = absurd (not_both x s b.0 a)
      by_cases (inr a) (inr b) = h.apart x y s a b

  -- an open round of the file's chunk: its handle is gone now, and stood there
  its_round : (x version : ℕ) (s : Spot) → s.file ≡ file.0 → StandsAt k.log.table x s → IsRoundOpen k x version s → (2 ≤ times_in k.log.table.files x) ⊎ IsRoundOpen collected x version s
  its_round x version s same at was_open = elim (many_or_once (times_in k.log.table.files x) some) [
    | inl many ↦ inl many
    | inr once ↦ inr (still_open k collected x version s was_open (inr (now_gone once, no_row once)) refl (same_chunk s))
  ]
    where
      here : element_at handles s.index ≡ Some x
      here = subst (λ (xs : List ℕ). element_at xs s.index ≡ Some x) (ap (λ (n : ℕ). handles_of k.log.table n) same ∙ handles_are) at

      some : 1 ≤ times_in k.log.table.files x
      some = let low = times_at_least k.log.table.files file.0 x in let one = subst (λ (xs : List ℕ). 1 ≤ stands x xs) (sym handles_are) (placed_stands handles s.index x here) in omega (arith, low, one)

      few : times_in k.log.table.files x ≡ 1 → stands x handles ≤ 1
      few once = let low = subst (λ (xs : List ℕ). stands x xs ≤ times_in k.log.table.files x) handles_are (times_at_least k.log.table.files file.0 x) in omega (arith, low, once)

      now_gone : times_in k.log.table.files x ≡ 1 → gone_after file.0 handles k.gone x ≡ Some s
      now_gone once =
          let found = index_there x handles 0 s.index here in
          let place = index_sound x handles 0 found.0 found.1 in
          let index : place.0 ≡ s.index = one_place handles x place.0 s.index (few once) place.2 here in
          ap (λ (o : Option ℕ). first_spot (option_map (spot_at file.0) o) (k.gone x)) found.1
          ∙ ap (λ (y : Spot). Some y) (same_spot (spot_at file.0 found.0) s (sym same) (let sum = place.1 in omega (arith, sum, index)))

      no_row : times_in k.log.table.files x ≡ 1 → chunk_of dropped x ≡ None
      no_row once =
          let has = (h.there file.0 handles is).chunks s.index x here in
          let references = all.0 x has.0 has.1 in
          last_left k.log.table.chunks (handles_of k.log.table file.0) x has.0 has.1 (omega (arith, references, once)) (subst (λ (xs : List ℕ). 1 ≤ stands x xs) (sym handles_are) (placed_stands handles s.index x here))

  each_round : (x version : ℕ) (s : Spot) → IsRoundOpen k x version s → StandsAt k.log.table x s ⊎ StoodAt k x s → (2 ≤ times_in k.log.table.files x) ⊎ IsRoundOpen collected x version s
  each_round x version s was_open (inl at) = elim (steps.same_or_not s.file file.0) [
    | inl same ↦ its_round x version s same at was_open
    | inr differs ↦ inr (still_open k collected x version s was_open (inl (ap (λ (o : Option (List ℕ)). element_at (unwrap_or o []) s.index) (steps.gone_other k.log.table.files file.0 s.file differs) ∙ at)) refl (same_chunk s))
  ]
  each_round x version s was_open (inr stood) = inr (still_open k collected x version s was_open (inr (gone_still (index_in x handles 0) refl, all_left_none k.log.table.chunks (handles_of k.log.table file.0) x stood.1)) refl (same_chunk s))
    where
      gone_still : (o : Option ℕ) → index_in x handles 0 ≡ o → gone_after file.0 handles k.gone x ≡ Some s
      gone_still None found = ap (λ (o : Option ℕ). first_spot (option_map (spot_at file.0) o) (k.gone x)) found ∙ stood.0
      gone_still (Some index) found =
          let place = index_sound x handles 0 index found in
          absurd (gone_or_there k h x (spot_at file.0 place.0) (stands_in k.log.table file.0 place.0 x handles is place.2) s stood)

pub collected_files_keep_their_chunks : CollectedFilesKeepTheirChunks
collected_files_keep_their_chunks k file handles moment h all is = record {
  alike = record { there = each_file k file handles moment h all is; gone = is_spot k file handles moment h all is; apart = one_each k file handles moment h all is };
  rounds = λ x version s was_open. each_round k file handles moment h all is x version s was_open was_open.place;
}
