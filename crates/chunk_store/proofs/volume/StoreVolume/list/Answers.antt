use Rattle.std.proofs.Common.{◌≡◌, map as mapped, ◌∙◌}
use Rattle.std.proofs.lemmas.Result.{IfOk-weaker}
use Rattle.std.specs.FinMap as map
use Rattle.disk_redo.specs.Redo.{stands_for}
use Rattle.store_disk.specs.Index.{row_in}
use Rattle.store_changes.specs.Areas.{area_of}
use Rattle.store_disk.proofs.Listed.{rows_listed}
use Rattle.store_disk.specs.Rows.{rows_of}
use Rattle.chunk_store.proofs.volume.StoreVolume.list.Goals as goal

pub returns : goal.returns
returns g c d is =
    let store = c.args.self.now in
    let l = store.layout in
    IfOk-weaker c.list.result (λ rows. rows.items ≡ mapped row_in (map.entries store.index.held)) (λ rows. rows.items ≡ rows_of d)
    (λ rows are. are ∙ rows_listed l.chunk l.block l.slots store.index (stands_for (area_of l.chunk l.block) (g.D.Disk.seen store.disk)) d is.says) c.list.ensures
