use Rattle.std.proofs.Common.{◌≡◌, inl, false, refl, sym, ap, ◌∙◌}
use Rattle.replica_store.specs.Replicas.{new_server_disk}
use Rattle.store_disk.specs.Formats.{is_head_open}
use Rattle.disk_store.proofs.disk_store.DiskStore.new.Goals as goal

-- the head is closed, so the disk holds no replica
pub open-requires-clause-holds : goal.open-requires-clause-holds
open-requires-clause-holds g c =
    let disk = g.D.Disk in
    let l = c.args.layout in
    let closed : is_head_open (disk.seen c.has_open_head.new.disk) ≡ false = ap is_head_open c.has_open_head.ensures.reads.seen_same ∙ sym c.in_ok-has_open_head.ensures.head ∙ c.if-branch.false in
    (new_server_disk l.chunk l.block l.slots, inl (closed, refl))

pub returns-in-Ok-clause-new : goal.returns-in-Ok-clause-new
returns-in-Ok-clause-new g c =
    let disk = g.D.Disk in
    let l = c.args.layout in
    let closed : is_head_open (disk.seen c.has_open_head.new.disk) ≡ false = ap is_head_open c.has_open_head.ensures.reads.seen_same ∙ sym c.in_ok-has_open_head.ensures.head ∙ c.if-branch.false in
    (c.in-Ok.ensures.opened (new_server_disk l.chunk l.block l.slots) (inl (closed, refl)), c.in-Ok.ensures.nothing.0)
