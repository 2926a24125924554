-- One chunk changes at both sides: its order, its round, or what was granted of it.
use Rattle.std.proofs.Common.{◌≡◌, ◌⊎◌, ℕ, ◌<◌, List, [], ◌∷◌, ◌++◌, true, false, Option, Some, refl, sym, ap, subst, ◌∙◌, inl, inr}
use Rattle.std.specs.FinMap as table
use Rattle.std.specs.Prelude.{unwrap_or}
use Rattle.chunk_table.specs.ChunkTable.{ChunkRow, file_of, chunk_of}
use Rattle.relaxed_file.specs.Machine.{Machine, Chunk, FileState, chunk_at, chunk_count, put, with_chunk}
use Rattle.relaxed_file.specs.Run.{Action, CloseRound, OpenRound, IsLawful, after_all}
use Rattle.relaxed_file.proofs.Tables as tables
use Rattle.protocol.specs.Tables.{Table, element_at}
use Rattle.laws_base.proofs.Steps as steps
use Rattle.protocol_invariant.specs.Actions.{Spot, opening}
use Rattle.laws_machine.specs.ChunksAlike.{ChunkSides, chunk_in, entries_in, StandsAt, StoodAt, IsRoundOpen, HasAlike, AreChunksAlike, NoneEnds, KeepsChunks}
use Rattle.laws_machine.proofs.Sides.{listed, stands_in, one_handle, gone_or_there, still_open, still_alike, same_spot}

-- from one state of the machine to another this chunk alone changes
pub record IsChangedAt (m n : Machine) (s : Spot) (chunk : Chunk) : Type 0 where
  pub here : chunk_in n s ≡ chunk
  pub elsewhere : (other : Spot) → (other ≡ s → ⊥) → chunk_in n other ≡ chunk_in m other
  pub counts : (file : ℕ) → chunk_count n file ≡ chunk_count m file

module _ (m : Machine) (s : Spot) (chunk : Chunk) where
  abbrev state : FileState
  state = record (m.files s.file) { chunks = put s.index chunk (m.files s.file).chunks }

  abbrev now : Machine
  now = with_chunk m s.file s.index chunk

  its_file : (other : Spot) → (other ≡ s → ⊥) → (other.file ≡ s.file) ⊎ (other.file ≡ s.file → ⊥) → chunk_in now other ≡ chunk_in m other
  its_file other apart (inl same) =
      ap (λ (f : FileState). f.chunks other.index) (tables.put_is s.file state m.files other.file same)
      ∙ tables.put_other s.index chunk (m.files s.file).chunks other.index (λ index. apart (same_spot other s same index))
      ∙ ap (λ (f : ℕ). (m.files f).chunks other.index) (sym same)
  its_file other apart (inr differs) = ap (λ (f : FileState). f.chunks other.index) (tables.put_other s.file state m.files other.file differs)

  count_in : (file : ℕ) → (file ≡ s.file) ⊎ (file ≡ s.file → ⊥) → chunk_count now file ≡ chunk_count m file
  count_in file (inl same) = ap (λ (f : FileState). f.chunk_count) (tables.put_is s.file state m.files file same) ∙ ap (λ (f : ℕ). (m.files f).chunk_count) (sym same)
  count_in file (inr differs) = ap (λ (f : FileState). f.chunk_count) (tables.put_other s.file state m.files file differs)

  pub one_changed : IsChangedAt m now s chunk
  one_changed = record {
    here = ap (λ (f : FileState). f.chunks s.index) (tables.put_is s.file state m.files s.file refl) ∙ tables.put_is s.index chunk (m.files s.file).chunks s.index refl;
    elsewhere = λ other apart. its_file other apart (steps.same_or_not other.file s.file);
    counts = λ file. count_in file (steps.same_or_not file s.file);
  }

pub changed_again : (m n o : Machine) (s : Spot) (c d : Chunk) → IsChangedAt m n s c → IsChangedAt n o s d → IsChangedAt m o s d
changed_again m n o s c d first second = record {
  here = second.here;
  elsewhere = λ other apart. second.elsewhere other apart ∙ first.elsewhere other apart;
  counts = λ file. second.counts file ∙ first.counts file;
}

-- the round before is closed, where it is open, and a round opens
abbrev pub in_round : Chunk → ℕ → Chunk
in_round chunk version = record chunk { round = version; is_open = true }

pub opens : (m : Machine) (s : Spot) (version : ℕ) → s.index < chunk_count m s.file → (chunk_in m s).round < version
    → IsLawful m (opening m version s) × IsChangedAt m (after_all m (opening m version s)) s (in_round (chunk_in m s) version)
opens m s version there higher =
    steps.on_cond (λ (actions : List Action). IsLawful m (actions ++ OpenRound s.file s.index version ∷ []) × IsChangedAt m (after_all m (actions ++ OpenRound s.file s.index version ∷ [])) s (in_round (chunk_in m s) version))
    (chunk_at m s.file s.index).is_open (CloseRound s.file s.index ∷ []) []
    (λ is_open.
    let closed : Chunk = record (chunk_in m s) { is_open = false } in
    let n : Machine = with_chunk m s.file s.index closed in
    let first = one_changed m s closed in
    let second = one_changed n s (record (chunk_in n s) { round = version; is_open = true }) in (
      (is_open, ((subst (λ (count : ℕ). s.index < count) (sym (first.counts s.file)) there, ap (λ (c : Chunk). c.is_open) first.here, subst (λ (c : Chunk). c.round < version) (sym first.here) higher), tt)),
      changed_again m n _ s closed _ first (subst (λ (c : Chunk). IsChangedAt n (with_chunk n s.file s.index (record (chunk_in n s) { round = version; is_open = true })) s (record c { round = version; is_open = true })) first.here second),
    ))
    (λ is_closed. (((there, is_closed, higher), tt), one_changed m s (in_round (chunk_in m s) version)))

-- a handle stands in a file, or stood there last
abbrev pub HasPlace : ChunkSides → ℕ → Spot → Type 0
HasPlace k handle s = StandsAt k.log.table handle s ⊎ StoodAt k handle s

pub one_owner : (k : ChunkSides) → AreChunksAlike k → (handle other : ℕ) (s : Spot) → HasPlace k handle s → HasPlace k other s → handle ≡ other
one_owner k h handle other s (inl at) (inl also) = one_handle k.log.table handle other s at also
one_owner k h handle other s (inl at) (inr stood) = let found = listed k.log.table handle s at in steps.none_some found.0 (sym (h.gone other s stood.0).collected ∙ found.1)
one_owner k h handle other s (inr stood) (inl at) = let found = listed k.log.table other s at in steps.none_some found.0 (sym (h.gone handle s stood.0).collected ∙ found.1)
one_owner k h handle other s (inr stood) (inr also) = h.apart handle other s stood.0 also.0

-- what is changed of one chunk: both sides agree on it again, and on the others nothing changes
pub record AreChangedAt (k j : ChunkSides) (handle : ℕ) (s : Spot) (chunk : Chunk) : Type 0 where
  pub place : HasPlace k handle s
  pub alone : (other : Spot) → StandsAt k.log.table handle other → other ≡ s
  pub lists : j.log.table.files ≡ k.log.table.files
  pub next : j.log.next_file ≡ k.log.next_file
  pub gone : j.gone ≡ k.gone
  pub rows : (other : ℕ) → (other ≡ handle → ⊥) → chunk_of j.log.table other ≡ chunk_of k.log.table other
  pub row : (before : ChunkRow) → chunk_of k.log.table handle ≡ Some before → (chunk_in k.machine s).round ≡ before.granted → (after : ChunkRow) × (chunk_of j.log.table handle ≡ Some after) × (chunk.round ≡ after.granted)
  pub orders : (other : ℕ) → (other ≡ handle → ⊥) → entries_in j.orders other ≡ entries_in k.orders other
  pub order : entries_in j.orders handle ≡ chunk.order
  pub machine : IsChangedAt k.machine j.machine s chunk

module _ (k j : ChunkSides) (handle : ℕ) (s : Spot) (chunk : Chunk) (h : AreChunksAlike k) (c : AreChangedAt k j handle s chunk) where
  pub apart_from : (other : ℕ) (at : Spot) → (other ≡ handle → ⊥) → HasPlace k other at → at ≡ s → ⊥
  apart_from other at differs has same = differs (one_owner k h other handle s (subst (λ (x : Spot). HasPlace k other x) same has) c.place)

  there_before : (file : ℕ) (handles : List ℕ) → file_of j.log.table file ≡ Some handles → file_of k.log.table file ≡ Some handles
  there_before file handles is = ap (λ (fs : Table (List ℕ)). table.get fs file) (sym c.lists) ∙ is

  own_chunk : (at : Spot) → at ≡ s → HasAlike k handle (chunk_in k.machine at) → HasAlike j handle (chunk_in j.machine at)
  own_chunk at same has =
      let row = c.row has.0 has.1 (ap (λ (x : Spot). (chunk_in k.machine x).round) (sym same) ∙ has.2.round) in
      let here : chunk_in j.machine at ≡ chunk = ap (λ (x : Spot). chunk_in j.machine x) same ∙ c.machine.here in
      (row.0, row.1, record { order = c.order ∙ ap (λ (x : Chunk). x.order) (sym here); round = ap (λ (x : Chunk). x.round) here ∙ row.2 })

  each_chunk : (other : ℕ) (at : Spot) → (other ≡ handle) ⊎ (other ≡ handle → ⊥) → StandsAt k.log.table other at → HasAlike k other (chunk_in k.machine at) → HasAlike j other (chunk_in j.machine at)
  each_chunk other at (inl same) stands has =
      subst (λ (n : ℕ). HasAlike j n (chunk_in j.machine at)) (sym same)
      (own_chunk at (c.alone at (subst (λ (n : ℕ). StandsAt k.log.table n at) same stands)) (subst (λ (n : ℕ). HasAlike k n (chunk_in k.machine at)) same has))
  each_chunk other at (inr differs) stands has =
      (has.0, c.rows other differs ∙ has.1, still_alike k j other has.0 has.0 _ _ has.2 (c.orders other differs) (c.machine.elsewhere at (apart_from other at differs (inl stands))) refl)

  pub changed_alike : AreChunksAlike j
  changed_alike = record {
    there = λ file handles is.
        let was = there_before file handles is in
        let old = h.there file handles was in
        record {
          numbered = subst (λ (n : ℕ). file < n) (sym c.next) old.numbered;
          count = c.machine.counts file ∙ old.count;
          chunks = λ index other at. each_chunk other (record { file = file; index = index }) (steps.same_or_not other handle) (stands_in k.log.table file index other handles was at) (old.chunks index other at);
        };
    gone = λ other at was.
        let old = h.gone other at (ap (λ (g : ℕ → Option Spot). g other) (sym c.gone) ∙ was) in
        record {
          numbered = subst (λ (n : ℕ). at.file < n) (sym c.next) old.numbered;
          collected = ap (λ (fs : Table (List ℕ)). table.get fs at.file) c.lists ∙ old.collected;
          count = subst (λ (n : ℕ). at.index < n) (sym (c.machine.counts at.file)) old.count;
        };
    apart = λ other more at is more_is. h.apart other more at (ap (λ (g : ℕ → Option Spot). g other) (sym c.gone) ∙ is) (ap (λ (g : ℕ → Option Spot). g more) (sym c.gone) ∙ more_is);
  }

  pub stands_still : (other : ℕ) (at : Spot) → StandsAt k.log.table other at → StandsAt j.log.table other at
  stands_still other at stands = ap (λ (fs : Table (List ℕ)). element_at (unwrap_or (table.get fs at.file) []) at.index) c.lists ∙ stands

  place_before : (other : ℕ) (at : Spot) → (other ≡ handle → ⊥) → HasPlace k other at → HasPlace j other at
  place_before other at differs (inl stands) = inl (stands_still other at stands)
  place_before other at differs (inr stood) = inr (ap (λ (g : ℕ → Option Spot). g other) c.gone ∙ stood.0, c.rows other differs ∙ stood.1)

  -- the rounds of the others stay
  pub others_stay : (other version : ℕ) (at : Spot) → (other ≡ handle → ⊥) → IsRoundOpen k other version at → IsRoundOpen j other version at
  others_stay other version at differs was_open =
      still_open k j other version at was_open (place_before other at differs was_open.place) (c.orders other differs) (c.machine.elsewhere at (apart_from other at differs was_open.place))

  -- an open round of the handle is in this chunk
  pub its_spot : (version : ℕ) (at : Spot) → IsRoundOpen k handle version at → at ≡ s
  its_spot version at was_open = by_place was_open.place c.place
    where
      by_place : HasPlace k handle at → HasPlace k handle s → at ≡ s
      by_place (inl stands) place = c.alone at stands
      by_place (inr stood) (inl stands) = absurd (gone_or_there k h handle s stands at stood)
      by_place (inr stood) (inr also) = steps.same_some at s (sym stood.0 ∙ also.0)

  -- where the handle's rounds may end
  pub ended_changed : KeepsChunks (λ ended. ended ≡ handle) k j
  ended_changed = record {
    alike = changed_alike;
    rounds = λ other version at was_open. elim (steps.same_or_not other handle) [
      | inl same ↦ inl same
      | inr differs ↦ inr (others_stay other version at differs was_open)
    ];
  }

  -- where the handle's round goes on
  pub open_changed : chunk.round ≡ (chunk_in k.machine s).round → chunk.is_open ≡ (chunk_in k.machine s).is_open → HasPlace j handle s → KeepsChunks NoneEnds k j
  open_changed round is_open place = record {
    alike = changed_alike;
    rounds = λ other version at was_open. elim (steps.same_or_not other handle) [
      | inl same ↦ inr (subst (λ (n : ℕ). IsRoundOpen j n version at) (sym same) (own_round version at (subst (λ (n : ℕ). IsRoundOpen k n version at) same was_open)))
      | inr differs ↦ inr (others_stay other version at differs was_open)
    ];
  }
    where
      at_spot : (version : ℕ) → IsRoundOpen k handle version s → IsRoundOpen j handle version s
      at_spot version was_open = record {
        place = place;
        order = c.order ∙ ap (λ (x : Chunk). x.order) (sym c.machine.here);
        round = ap (λ (x : Chunk). x.round) c.machine.here ∙ round ∙ was_open.round;
        is_open = ap (λ (x : Chunk). x.is_open) c.machine.here ∙ is_open ∙ was_open.is_open;
      }

      own_round : (version : ℕ) (at : Spot) → IsRoundOpen k handle version at → IsRoundOpen j handle version at
      own_round version at was_open =
          let same = its_spot version at was_open in
          subst (λ (x : Spot). IsRoundOpen j handle version x) (sym same) (at_spot version (subst (λ (x : Spot). IsRoundOpen k handle version x) same was_open))
