use Rattle.std.proofs.Common.{◌≡◌, ℕ, List, false, Some, length, slice_get, refl, sym, ap, ◌∙◌}
use Rattle.std.proofs.lemmas.Option.{slice_get_read}
use Rattle.std.specs.List.{list_all}
use Rattle.chunk_table.specs.ChunkTable.{chunk_of, handles_of}
use Rattle.protocol.specs.MasterSnapshots.{row_has_ended}
use Rattle.master_names.proofs.LeasedChunks.{lasts, some_weaker}
use Rattle.master_names.proofs.waits.leased_until.Goals as goal

pub returns : goal.returns
returns g c =
    let t = c.args.plan.now.logged.table in
    let handles = handles_of t c.args.file.0 in
    let handle = c.in-Some.handle.now in
    let all = c.handles_of.result.now in
    let found = c.in-Some.ensures.lookup in
    let at : slice_get handles c.args.index ≡ Some handle =
    ap (λ (hs : List ℕ). slice_get hs c.args.index) (sym c.handles_of.ensures) ∙ slice_get_read all (length all) c.args.index handle refl found.3.0 found.1 in
    some_weaker c.lease_until.result (λ m. row_has_ended m (chunk_of t handle) ≡ false) (λ m. list_all (λ handle. row_has_ended m (chunk_of t handle)) handles ≡ false)
    (λ m counts. lasts t handles c.args.index handle m at counts) c.lease_until.ensures
