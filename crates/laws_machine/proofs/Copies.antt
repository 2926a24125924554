-- A copy that takes the place of its source at its grant.
use Rattle.std.proofs.Common.{◌≡◌, ◌⊎◌, ℕ, ◌<◌, ◌≤◌, List, [], Option, Some, None, refl, sym, ap, subst, ◌∙◌, inl, inr, arith}
use Rattle.std.specs.FinMap as table
use Rattle.std.specs.Prelude.{unwrap_or, slice_set, length}
use Rattle.gfs_types.specs.declared.ids.Handle.{Handle}
use Rattle.gfs_types.specs.declared.ids.ServerId.{ServerId}
use Rattle.gfs_types.specs.declared.ids.Version.{Version}
use Rattle.chunk_table.specs.ChunkTable.{ChunkRow, file_of, handles_of, chunk_of, row_granted, changed_by, grant}
use Rattle.relaxed_file.specs.Machine.{Chunk, chunk_at}
use Rattle.relaxed_file.specs.Run.{IsLawful, after_all}
use Rattle.protocol.specs.Tables.{element_at}
use Rattle.protocol.specs.Logged.{Logged, Copy, swapped_in}
use Rattle.laws_base.specs.Laws.{HasAllReferences}
use Rattle.laws_base.proofs.Steps as steps
use Rattle.laws_base.proofs.MembersRecorded.{place_below}
use Rattle.laws_base.proofs.ChunkRows.{Rows, swapped_owned}
use Rattle.laws_base.proofs.Owners.{AreCounted, HasRow, stands, chunk_row, changed_refs, swapped_counted, placed_stands}
use Rattle.protocol_invariant.specs.Actions.{Spot, opening}
use Rattle.laws_machine.specs.ChunksAlike.{ChunkSides, chunk_in, StandsAt, IsRoundOpen, IsFileAlike, HasAlike, IsGoneSpot, AreChunksAlike, moved, Follows}
use Rattle.laws_machine.specs.ChunkRecords.{IsCopyDue, CopiesTakeTheirPlace}
use Rattle.laws_machine.proofs.Sides.{listed, stands_in, alike_at, still_open, still_alike, spot_at, same_spot}
use Rattle.laws_machine.proofs.OneChunk.{IsChangedAt, in_round, opens, HasPlace, one_owner}
use Rattle.laws_machine.proofs.Grants.{is_counted, round_of_row}
use Rattle.laws_machine.proofs.Rows.{counted, set_there, set_other, set_length}

module _ (k : ChunkSides) (handle : Handle) (version : Version) (primary : ServerId) (members : List ℕ) (c : Copy)
    (h : AreChunksAlike k) (all : HasAllReferences k.log.table) (due : IsCopyDue k handle.0 version.0 c) where
  abbrev s : Spot
  s = record { file = c.file; index = c.index }

  abbrev granted : Logged
  granted = record k.log { table = grant k.log.table handle.0 version.0 primary.0 members }

  abbrev swapped : Logged
  swapped = swapped_in granted handle.0 (Some c)

  abbrev j : ChunkSides
  j = moved k (opening k.machine version.0 s) swapped k.gone k.orders

  abbrev new_row : ChunkRow
  new_row = row_granted version.0 primary.0 members due.row

  abbrev replaced : List ℕ
  replaced = slice_set (handles_of k.log.table c.file) c.index handle.0

  opened : IsLawful k.machine (opening k.machine version.0 s) × IsChangedAt k.machine (after_all k.machine (opening k.machine version.0 s)) s (in_round (chunk_in k.machine s) version.0)
  opened = opens k.machine s version.0 (is_counted k h c.source s due.place) (let round = round_of_row k h c.source s due.before due.place due.before_is in let low = due.higher in omega (arith, round, low))

  rows_are : granted.table.chunks ≡ table.insert k.log.table.chunks handle.0 new_row
  rows_are = ap (λ (o : Option ChunkRow). changed_by k.log.table.chunks handle.0 (row_granted version.0 primary.0 members) o) due.row_is

  row_there : chunk_of granted.table handle.0 ≡ Some new_row
  row_there = ap (λ (rows : Rows). table.get rows handle.0) rows_are ∙ steps.put_there k.log.table.chunks handle.0 new_row handle.0 refl

  row_stays : (x : ℕ) → (x ≡ handle.0 → ⊥) → chunk_of granted.table x ≡ chunk_of k.log.table x
  row_stays x differs = ap (λ (rows : Rows). table.get rows x) rows_are ∙ steps.put_other k.log.table.chunks handle.0 new_row x differs

  are_counted : AreCounted swapped.table
  are_counted =
      swapped_counted granted.table c.file c.index c.source handle.0 (new_row, row_there) due.place
      (λ q. changed_refs k.log.table.chunks handle.0 (row_granted version.0 primary.0 members) (chunk_of k.log.table handle.0) refl (λ row. refl) q ∙ counted k.log.table all q)

  -- what is granted of a row after it
  after_grant : (x : ℕ) (row : ChunkRow) → chunk_of swapped.table x ≡ Some row → (old : ChunkRow) × (chunk_of granted.table x ≡ Some old) × (old.granted ≡ row.granted)
  after_grant x row is = let was = swapped_owned granted handle.0 (Some c) x row is in (was.0, was.1, ap (λ (r : ChunkRow). r.granted) was.2)

  not_the_copy : (x : ℕ) (at : Spot) → StandsAt k.log.table x at → x ≡ handle.0 → ⊥
  not_the_copy x at stand same = due.unplaced at (subst (λ (n : ℕ). StandsAt k.log.table n at) same stand)

  -- who stands in a file now has a row
  row_now : (file index x : ℕ) (hs : List ℕ) → file_of swapped.table file ≡ Some hs → element_at hs index ≡ Some x → HasRow swapped.table.chunks x
  row_now file index x hs is at =
      chunk_row swapped.table file x are_counted (subst (λ (xs : List ℕ). 1 ≤ stands x xs) (sym (ap (λ (o : Option (List ℕ)). unwrap_or o []) is)) (placed_stands hs index x at))

  -- a chunk that was there, elsewhere
  old_chunk : (file index x : ℕ) (hs : List ℕ) → file_of swapped.table file ≡ Some hs → element_at hs index ≡ Some x → StandsAt k.log.table x (spot_at file index)
      → (spot_at file index ≡ s → ⊥) → HasAlike j x (chunk_at j.machine file index)
  old_chunk file index x hs is at stand differs =
      let has = alike_at k h x (spot_at file index) stand in
      let row = row_now file index x hs is at in
      let was = after_grant x row.0 row.1 in
      let same = steps.same_some was.0 has.0 (sym was.1 ∙ row_stays x (not_the_copy x (spot_at file index) stand) ∙ has.1) in
      (row.0, row.1, still_alike k j x has.0 row.0 _ _ has.2 refl ((opened.1).elsewhere (spot_at file index) differs) (ap (λ (r : ChunkRow). r.granted) (sym same) ∙ was.2))

  -- the copy's chunk
  new_chunk : (file : ℕ) (hs : List ℕ) → file_of swapped.table file ≡ Some hs → element_at hs c.index ≡ Some handle.0 → HasAlike j handle.0 (chunk_in j.machine s)
  new_chunk file hs is at =
      let row = row_now file c.index handle.0 hs is at in
      let was = after_grant handle.0 row.0 row.1 in
      let same = steps.same_some was.0 new_row (sym was.1 ∙ row_there) in (
        row.0,
        row.1,
        record {
          order = due.entries ∙ (alike_at k h c.source s due.place).2.order ∙ ap (λ (x : Chunk). x.order) (sym (opened.1).here);
          round = ap (λ (x : Chunk). x.round) (opened.1).here ∙ ap (λ (r : ChunkRow). r.granted) (sym same) ∙ was.2;
        },
      )

  its_list : (hs : List ℕ) → file_of k.log.table c.file ≡ Some hs → replaced ≡ slice_set hs c.index handle.0
  its_list hs is = ap (λ (o : Option (List ℕ)). slice_set (unwrap_or o []) c.index handle.0) is

  the_file : IsFileAlike j c.file replaced
  the_file =
      let found = listed k.log.table c.source s due.place in
      let old = h.there c.file found.0 found.1 in
      let now : file_of swapped.table c.file ≡ Some replaced = steps.put_there k.log.table.files c.file replaced c.file refl in
      record {
        numbered = old.numbered;
        count = (opened.1).counts c.file ∙ old.count ∙ sym (ap length (its_list found.0 found.1) ∙ set_length found.0 c.index handle.0);
        chunks = λ index x at. elim (steps.same_or_not index c.index) [
          | inl same ↦
              let here : element_at replaced c.index ≡ Some handle.0 = ap (λ (xs : List ℕ). element_at xs c.index) (its_list found.0 found.1) ∙ set_there found.0 c.index handle.0 (place_below found.0 c.index c.source found.2) in
              let is : handle.0 ≡ x = steps.same_some handle.0 x (sym here ∙ ap (λ (n : ℕ). element_at replaced n) (sym same) ∙ at) in
              subst (λ (n : ℕ). HasAlike j x (chunk_at j.machine c.file n)) (sym same) (subst (λ (n : ℕ). HasAlike j n (chunk_in j.machine s)) is (new_chunk c.file replaced now here))
          | inr differs ↦
              let before : element_at found.0 index ≡ Some x = sym (ap (λ (xs : List ℕ). element_at xs index) (its_list found.0 found.1) ∙ set_other found.0 c.index handle.0 index differs) ∙ at in
              old_chunk c.file index x replaced now at (stands_in k.log.table c.file index x found.0 found.1 before) (λ same. differs (ap (λ (y : Spot). y.index) same))
        ];
      }

  each_file : (file : ℕ) (hs : List ℕ) → file_of swapped.table file ≡ Some hs → IsFileAlike j file hs
  each_file file hs is = elim (steps.put_split k.log.table.files c.file replaced file hs is) [
    | inl now ↦ subst (λ (f : ℕ). IsFileAlike j f hs) (sym now.0) (subst (λ (xs : List ℕ). IsFileAlike j c.file xs) now.1 the_file)
    | inr before ↦
        let old = h.there file hs before.1 in
        record {
          numbered = old.numbered;
          count = (opened.1).counts file ∙ old.count;
          chunks = λ index x at. old_chunk file index x hs is at (stands_in k.log.table file index x hs before.1 at) (λ same. before.0 (ap (λ (y : Spot). y.file) same));
        }
  ]

  none_stays : (file : ℕ) → file_of k.log.table file ≡ None → file_of swapped.table file ≡ None
  none_stays file none = elim (steps.same_or_not file c.file) [
    | inl same ↦ let found = listed k.log.table c.source s due.place in steps.none_some found.0 (sym none ∙ ap (λ (n : ℕ). file_of k.log.table n) same ∙ found.1)
    | inr differs ↦ steps.put_other k.log.table.files c.file replaced file differs ∙ none
  ]

  each_gone : (x : ℕ) (at : Spot) → k.gone x ≡ Some at → IsGoneSpot j at
  each_gone x at was =
      let old = h.gone x at was in
      record { numbered = old.numbered; collected = none_stays at.file old.collected; count = subst (λ (n : ℕ). at.index < n) (sym ((opened.1).counts at.file)) old.count }

  row_gone : (x : ℕ) → (x ≡ handle.0 → ⊥) → chunk_of k.log.table x ≡ None → chunk_of swapped.table x ≡ None
  row_gone x differs none = by_row (chunk_of swapped.table x) refl
    where
      by_row : (o : Option ChunkRow) → chunk_of swapped.table x ≡ o → chunk_of swapped.table x ≡ None
      by_row None is = is
      by_row (Some row) is = let was = after_grant x row is in steps.none_some was.0 (sym (row_stays x differs ∙ none) ∙ was.1)

  -- a round of another chunk stays
  other_round : (x v : ℕ) (at : Spot) → (x ≡ handle.0 → ⊥) → (x ≡ c.source → ⊥) → IsRoundOpen k x v at → IsRoundOpen j x v at
  other_round x v at no_copy no_source was_open =
      let differs : at ≡ s → ⊥ = λ same. no_source (one_owner k h x c.source s (subst (λ (y : Spot). HasPlace k x y) same was_open.place) (inl due.place)) in
      still_open k j x v at was_open (place_now differs was_open.place) refl ((opened.1).elsewhere at differs)
    where
      list_now : (at ≡ s → ⊥) → (at.file ≡ c.file) ⊎ (at.file ≡ c.file → ⊥) → StandsAt k.log.table x at → StandsAt swapped.table x at
      list_now differs (inl same) stand =
          ap (λ (o : Option (List ℕ)). element_at (unwrap_or o []) at.index) (steps.put_there k.log.table.files c.file replaced at.file same)
          ∙ set_other (handles_of k.log.table c.file) c.index handle.0 at.index (λ index. differs (same_spot at s same index))
          ∙ ap (λ (n : ℕ). element_at (handles_of k.log.table n) at.index) (sym same) ∙ stand
      list_now differs (inr apart) stand = ap (λ (o : Option (List ℕ)). element_at (unwrap_or o []) at.index) (steps.put_other k.log.table.files c.file replaced at.file apart) ∙ stand

      place_now : (at ≡ s → ⊥) → HasPlace k x at → HasPlace j x at
      place_now differs (inl stand) = inl (list_now differs (steps.same_or_not at.file c.file) stand)
      place_now differs (inr stood) = inr (stood.0, row_gone x no_copy stood.1)

  each_round : (x v : ℕ) (at : Spot) → IsRoundOpen k x v at → ((x ≡ handle.0) ⊎ (x ≡ c.source)) ⊎ IsRoundOpen j x v at
  each_round x v at was_open = elim (steps.same_or_not x handle.0) [
    | inl same ↦ inl (inl same)
    | inr no_copy ↦ elim (steps.same_or_not x c.source) [
      | inl same ↦ inl (inr same)
      | inr no_source ↦ inr (other_round x v at no_copy no_source was_open)
    ]
  ]

  stands_now : StandsAt swapped.table handle.0 s
  stands_now =
      let found = listed k.log.table c.source s due.place in
      ap (λ (o : Option (List ℕ)). element_at (unwrap_or o []) c.index) (steps.put_there k.log.table.files c.file replaced c.file refl)
      ∙ ap (λ (xs : List ℕ). element_at xs c.index) (its_list found.0 found.1) ∙ set_there found.0 c.index handle.0 (place_below found.0 c.index c.source found.2)

  its_round : IsRoundOpen j handle.0 version.0 s
  its_round = record {
    place = inl stands_now;
    order = due.entries ∙ (alike_at k h c.source s due.place).2.order ∙ ap (λ (x : Chunk). x.order) (sym (opened.1).here);
    round = ap (λ (x : Chunk). x.round) (opened.1).here;
    is_open = ap (λ (x : Chunk). x.is_open) (opened.1).here;
  }

  takes_place : Follows (λ ended. (ended ≡ handle.0) ⊎ (ended ≡ c.source)) k (opening k.machine version.0 s) j × IsRoundOpen j handle.0 version.0 s
  takes_place = (record { allowed = opened.0; keeps = record { alike = record { there = each_file; gone = each_gone; apart = h.apart }; rounds = each_round } }, its_round)

pub copies_take_their_place : CopiesTakeTheirPlace
copies_take_their_place k handle version primary members c h all due =
    let at : Spot = record { file = c.file; index = c.index } in
    let given : Logged = record k.log { table = grant k.log.table handle.0 version.0 primary.0 members } in
    subst (λ (o : Option Copy). Follows (λ ended. (ended ≡ handle.0) ⊎ (ended ≡ c.source)) k (opening k.machine version.0 at) (moved k (opening k.machine version.0 at) (swapped_in given handle.0 o) k.gone k.orders)
    × IsRoundOpen (moved k (opening k.machine version.0 at) (swapped_in given handle.0 o) k.gone k.orders) handle.0 version.0 at)
    (sym due.under_way) (takes_place k handle version primary members c h all due)
