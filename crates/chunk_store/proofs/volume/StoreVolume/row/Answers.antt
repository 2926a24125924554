use Rattle.std.proofs.Common.{sym, ap, ◌∙◌}
use Rattle.disk_redo.specs.Redo.{stands_for}
use Rattle.store_changes.specs.Areas.{area_of}
use Rattle.store_disk.proofs.Listed.{row_found, row_known}
use Rattle.chunk_store.proofs.volume.StoreVolume.row.Goals as goal

pub returns-in_default : goal.returns-in_default
returns-in_default g c d says =
    let store = c.args.self.now in
    let l = store.layout in
    sym (row_known l.chunk l.block l.slots store.index (stands_for (area_of l.chunk l.block) (g.D.Disk.seen store.disk)) d says c.args.handle.0 ∙ ap row_found (sym c.get.ensures ∙ c.in_default.is))

pub returns : goal.returns
returns g c d says =
    let store = c.args.self.now in
    let l = store.layout in
    sym (row_known l.chunk l.block l.slots store.index (stands_for (area_of l.chunk l.block) (g.D.Disk.seen store.disk)) d says c.args.handle.0 ∙ ap row_found (sym c.get.ensures ∙ c.in-Some.is))
