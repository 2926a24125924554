-- A grant of a chunk that one file has.
use Rattle.std.proofs.Common.{◌≡◌, ℕ, ◌<◌, List, Option, Some, None, refl, sym, ap, subst, ◌∙◌, inl, arith}
use Rattle.std.specs.FinMap as table
use Rattle.gfs_types.specs.declared.ids.Handle.{Handle}
use Rattle.gfs_types.specs.declared.ids.ServerId.{ServerId}
use Rattle.gfs_types.specs.declared.ids.Version.{Version}
use Rattle.chunk_table.specs.ChunkTable.{ChunkRow, chunk_of, row_granted, changed_by, grant}
use Rattle.relaxed_file.specs.Machine.{Chunk, chunk_count}
use Rattle.relaxed_file.specs.Run.{IsLawful, after_all}
use Rattle.protocol.specs.Logged.{Logged, Copy, swapped_in}
use Rattle.laws_base.proofs.Steps as steps
use Rattle.laws_base.proofs.ChunkRows.{Rows}
use Rattle.laws_base.proofs.MembersRecorded.{place_below}
use Rattle.protocol_invariant.specs.Actions.{Spot, opening}
use Rattle.laws_machine.specs.ChunksAlike.{ChunkSides, chunk_in, StandsAt, IsRoundOpen, AreChunksAlike, moved, Follows}
use Rattle.laws_machine.specs.ChunkRecords.{StandsAlone, GrantsOpenRounds}
use Rattle.laws_machine.proofs.Sides.{listed, alike_at}
use Rattle.laws_machine.proofs.OneChunk.{IsChangedAt, AreChangedAt, in_round, opens, ended_changed, stands_still}

-- a chunk of a file is there at the machine too
pub is_counted : (k : ChunkSides) → AreChunksAlike k → (handle : ℕ) (s : Spot) → StandsAt k.log.table handle s → s.index < chunk_count k.machine s.file
is_counted k h handle s at =
    let found = listed k.log.table handle s at in
    let count = (h.there s.file found.0 found.1).count in
    let low = place_below found.0 s.index handle found.2 in
    omega (arith, count, low)

-- its round is the one of its row
pub round_of_row : (k : ChunkSides) → AreChunksAlike k → (handle : ℕ) (s : Spot) (row : ChunkRow) → StandsAt k.log.table handle s → chunk_of k.log.table handle ≡ Some row → (chunk_in k.machine s).round ≡ row.granted
round_of_row k h handle s row at is =
    let has = alike_at k h handle s at in
    has.2.round ∙ ap (λ (r : ChunkRow). r.granted) (steps.same_some has.0 row (sym has.1 ∙ is))

module _ (k : ChunkSides) (handle : Handle) (version : Version) (primary : ServerId) (members : List ℕ) (s : Spot) (row : ChunkRow) (h : AreChunksAlike k)
    (no_copy : table.get k.log.copies handle.0 ≡ None) (alone : StandsAlone k handle.0 s) (is : chunk_of k.log.table handle.0 ≡ Some row) (higher : row.granted < version.0) where
  abbrev granted : Logged
  granted = record k.log { table = grant k.log.table handle.0 version.0 primary.0 members }

  abbrev with_grant : Logged → ChunkSides
  with_grant l = moved k (opening k.machine version.0 s) l k.gone k.orders

  abbrev new_row : ChunkRow
  new_row = row_granted version.0 primary.0 members row

  rows_are : granted.table.chunks ≡ table.insert k.log.table.chunks handle.0 new_row
  rows_are = ap (λ (o : Option ChunkRow). changed_by k.log.table.chunks handle.0 (row_granted version.0 primary.0 members) o) is

  round_is : (chunk_in k.machine s).round ≡ row.granted
  round_is = round_of_row k h handle.0 s row alone.0 is

  opened : IsLawful k.machine (opening k.machine version.0 s) × IsChangedAt k.machine (after_all k.machine (opening k.machine version.0 s)) s (in_round (chunk_in k.machine s) version.0)
  opened = opens k.machine s version.0 (is_counted k h handle.0 s alone.0) (let round = round_is in let low = higher in omega (arith, round, low))

  changed : AreChangedAt k (with_grant granted) handle.0 s (in_round (chunk_in k.machine s) version.0)
  changed = record {
    place = inl alone.0;
    alone = alone.1;
    lists = refl;
    next = refl;
    gone = refl;
    rows = λ other differs. ap (λ (rows : Rows). table.get rows other) rows_are ∙ steps.put_other k.log.table.chunks handle.0 new_row other differs;
    row = λ before before_is round. (new_row, ap (λ (rows : Rows). table.get rows handle.0) rows_are ∙ steps.put_there k.log.table.chunks handle.0 new_row handle.0 refl, refl);
    orders = λ other differs. refl;
    order = (alike_at k h handle.0 s alone.0).2.order;
    machine = opened.1;
  }

  its_round : IsRoundOpen (with_grant granted) handle.0 version.0 s
  its_round = record {
    place = inl (stands_still k (with_grant granted) handle.0 s _ h changed handle.0 s alone.0);
    order = changed.order ∙ ap (λ (c : Chunk). c.order) (sym (opened.1).here);
    round = ap (λ (c : Chunk). c.round) (opened.1).here;
    is_open = ap (λ (c : Chunk). c.is_open) (opened.1).here;
  }

  opens_round : Follows (λ ended. ended ≡ handle.0) k (opening k.machine version.0 s) (with_grant granted) × IsRoundOpen (with_grant granted) handle.0 version.0 s
  opens_round = (record { allowed = opened.0; keeps = ended_changed k (with_grant granted) handle.0 s _ h changed }, its_round)

pub grants_open_rounds : GrantsOpenRounds
grants_open_rounds k handle version primary members s row h no_copy alone is higher =
    let given : Logged = record k.log { table = grant k.log.table handle.0 version.0 primary.0 members } in
    subst (λ (o : Option Copy). Follows (λ ended. ended ≡ handle.0) k (opening k.machine version.0 s) (moved k (opening k.machine version.0 s) (swapped_in given handle.0 o) k.gone k.orders)
    × IsRoundOpen (moved k (opening k.machine version.0 s) (swapped_in given handle.0 o) k.gone k.orders) handle.0 version.0 s)
    (sym no_copy) (opens_round k handle version primary members s row h no_copy alone is higher)
