-- Places of handles in files, and what of a chunk stays where nothing of it changes.
use Rattle.std.proofs.Common.{◌≡◌, ◌⊎◌, ℕ, zero, suc, List, [], ◌∷◌, ◌++◌, length, Option, Some, None, refl, sym, ap, subst, ◌∙◌, inl, inr}
use Rattle.std.specs.Prelude.{unwrap_or, option_map, IsTrue}
use Rattle.chunk_table.specs.ChunkTable.{ChunkTable, ChunkRow, file_of, chunk_of}
use Rattle.relaxed_file.specs.Machine.{Chunk}
use Rattle.protocol.specs.Tables.{element_at}
use Rattle.protocol.specs.Logged.{Logged}
use Rattle.laws_base.proofs.Steps.{none_some, same_some}
use Rattle.protocol_invariant.specs.Actions.{Spot}
use Rattle.laws_machine.specs.ChunksAlike.{ChunkSides, chunk_in, entries_in, StandsAt, StoodAt, IsRoundOpen, IsChunkAlike, HasAlike, AreChunksAlike}
use Rattle.laws_machine.specs.ChunkRecords.{HaveSameGrants}

-- a handle in a file's list stands there
pub stands_in : (t : ChunkTable) (file index handle : ℕ) (handles : List ℕ) → file_of t file ≡ Some handles → element_at handles index ≡ Some handle → StandsAt t handle (record { file = file; index = index })
stands_in t file index handle handles is at = ap (λ (o : Option (List ℕ)). element_at (unwrap_or o []) index) is ∙ at

-- who stands in a file is in its list
pub listed : (t : ChunkTable) (handle : ℕ) (s : Spot) → StandsAt t handle s → (handles : List ℕ) × (file_of t s.file ≡ Some handles) × (element_at handles s.index ≡ Some handle)
listed t handle s at = by_file (file_of t s.file) refl
  where
    by_file : (o : Option (List ℕ)) → file_of t s.file ≡ o → (handles : List ℕ) × (file_of t s.file ≡ Some handles) × (element_at handles s.index ≡ Some handle)
    by_file None is = none_some handle (ap (λ (o : Option (List ℕ)). element_at (unwrap_or o []) s.index) (sym is) ∙ at)
    by_file (Some handles) is = (handles, is, ap (λ (o : Option (List ℕ)). element_at (unwrap_or o []) s.index) (sym is) ∙ at)

-- one place has one handle
pub one_handle : (t : ChunkTable) (handle other : ℕ) (s : Spot) → StandsAt t handle s → StandsAt t other s → handle ≡ other
one_handle t handle other s h g = same_some handle other (sym h ∙ g)

-- what stands in a file has a row and a chunk
pub alike_at : (k : ChunkSides) → AreChunksAlike k → (handle : ℕ) (s : Spot) → StandsAt k.log.table handle s → HasAlike k handle (chunk_in k.machine s)
alike_at k h handle s at =
    let found = listed k.log.table handle s at in
    (h.there s.file found.0 found.1).chunks s.index handle found.2

-- a gone handle has no row, so it stands in no file
pub gone_or_there : (k : ChunkSides) → AreChunksAlike k → (handle : ℕ) (s : Spot) → StandsAt k.log.table handle s → (other : Spot) → StoodAt k handle other → ⊥
gone_or_there k h handle s at other stood = none_some ((alike_at k h handle s at).0) (sym stood.1 ∙ (alike_at k h handle s at).1)

-- a chunk of which nothing changes
pub still_open : (k j : ChunkSides) (handle version : ℕ) (s : Spot) → IsRoundOpen k handle version s → StandsAt j.log.table handle s ⊎ StoodAt j handle s
    → entries_in j.orders handle ≡ entries_in k.orders handle → chunk_in j.machine s ≡ chunk_in k.machine s → IsRoundOpen j handle version s
still_open k j handle version s h place orders same = record {
  place = place;
  order = orders ∙ h.order ∙ ap (λ (c : Chunk). c.order) (sym same);
  round = ap (λ (c : Chunk). c.round) same ∙ h.round;
  is_open = subst (λ (c : Chunk). IsTrue c.is_open) (sym same) h.is_open;
}

pub still_alike : (k j : ChunkSides) (handle : ℕ) (row after : ChunkRow) (c d : Chunk) → IsChunkAlike k handle row c
    → entries_in j.orders handle ≡ entries_in k.orders handle → d ≡ c → row.granted ≡ after.granted → IsChunkAlike j handle after d
still_alike k j handle row after c d h orders same granted = record {
  order = orders ∙ h.order ∙ ap (λ (x : Chunk). x.order) (sym same);
  round = ap (λ (x : Chunk). x.round) same ∙ h.round ∙ granted;
}

-- the row of a handle is that of another log, as far as it was granted
pub same_grant : (k l : Logged) → HaveSameGrants k l → (handle : ℕ) (row : ChunkRow) → chunk_of k.table handle ≡ Some row → (after : ChunkRow) × (chunk_of l.table handle ≡ Some after) × (row.granted ≡ after.granted)
same_grant k l same handle row is = by_row (chunk_of l.table handle) refl (ap (λ (o : Option ChunkRow). option_map (λ (r : ChunkRow). r.granted) o) (sym is) ∙ same handle)
  where
    by_row : (o : Option ChunkRow) → chunk_of l.table handle ≡ o → Some row.granted ≡ option_map (λ (r : ChunkRow). r.granted) o → (after : ChunkRow) × (chunk_of l.table handle ≡ Some after) × (row.granted ≡ after.granted)
    by_row None at e = none_some row.granted (sym e)
    by_row (Some after) at e = (after, at, same_some row.granted after.granted e)

pub same_none : (k l : Logged) → HaveSameGrants k l → (handle : ℕ) → chunk_of k.table handle ≡ None → chunk_of l.table handle ≡ None
same_none k l same handle is = by_row (chunk_of l.table handle) refl (ap (λ (o : Option ChunkRow). option_map (λ (r : ChunkRow). r.granted) o) (sym is) ∙ same handle)
  where
    by_row : (o : Option ChunkRow) → chunk_of l.table handle ≡ o → None ≡ option_map (λ (r : ChunkRow). r.granted) o → chunk_of l.table handle ≡ None
    by_row None at e = at
    by_row (Some after) at e = none_some after.granted e

-- the last place of a list that got one more
pub last_cases : {X : Type 0} (xs : List X) (y : X) (n : ℕ) (x : X) → element_at (xs ++ y ∷ []) n ≡ Some x → (element_at xs n ≡ Some x) ⊎ ((n ≡ length xs) × (y ≡ x))
last_cases [] y zero x h = inr (refl, same_some y x h)
last_cases [] y (suc n) x h = none_some x h
last_cases (z ∷ xs) y zero x h = inl h
last_cases (z ∷ xs) y (suc n) x h = elim (last_cases xs y n x h) [
  | inl before ↦ inl before
  | inr last ↦ inr (ap suc last.0, last.1)
]

pub one_longer : {X : Type 0} (xs : List X) (y : X) → suc (length xs) ≡ length (xs ++ y ∷ [])
one_longer [] y = refl
one_longer (x ∷ xs) y = ap suc (one_longer xs y)

abbrev pub spot_at : ℕ → ℕ → Spot
spot_at file index = record { file = file; index = index }

pub same_spot : (s other : Spot) → s.file ≡ other.file → s.index ≡ other.index → s ≡ other
same_spot s other files indexes = ap (λ (f : ℕ). spot_at f s.index) files ∙ ap (λ (i : ℕ). spot_at other.file i) indexes
