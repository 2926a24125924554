use Rattle.std.proofs.Common.{◌≡◌, true, false, Some, sym, ◌∙◌}
use Rattle.std.specs.List.{list_all}
use Rattle.std.specs.FinMap.{get}
use Rattle.gfs_types.specs.Paths.{is_at_or_below}
use Rattle.relaxed_file.specs.Names.{File}
use Rattle.chunk_table.specs.ChunkTable.{chunk_of, handles_of}
use Rattle.protocol.specs.MasterSnapshots.{row_has_ended}
use Rattle.master_waiting.specs.Due.{is_ready_at}
use Rattle.master_names.proofs.LeasedChunks.{must_wait_at, some_weaker}
use Rattle.master_names.proofs.waits.waits_at.Goals as goal

pub returns : goal.returns
returns g c =
    let p = c.args.plan.now in
    let s = c.args.snapshot.now in
    let path = c.args.awaited.now.path in
    let id = c.in-Some.file.0 in
    let below : is_at_or_below s.from path ≡ true = sym c.is_in_source.ensures ∙ c.if-not-is_in_source.false in
    let stands : get p.logged.names path ≡ Some (File id) = c.in-Some.ensures in
    some_weaker c.leased_until.result (λ m. list_all (λ handle. row_has_ended m (chunk_of p.logged.table handle)) (handles_of p.logged.table id) ≡ false)
    (λ m. is_ready_at p.logged m s ≡ false) (λ m fails. must_wait_at p s path id m below stands fails) c.leased_until.ensures
