use Rattle.std.proofs.Common.{◌≡◌, List, sym, ap, subst}
use Rattle.slab.specs.Slab.{Slab}
use Rattle.name_locks.specs.Locks.{Lock, Table}
use Rattle.name_locks.specs.LockCounts.{AddsAll, AreCounted}
use Rattle.name_locks.proofs.Counts.{put_counts}
use Rattle.name_locks.proofs.table.LockTable.add.Goals as goal

pub invariant_of-self-2 : goal.invariant_of-self-2
invariant_of-self-2 c =
    let i = c.self.inside in
    let room = c.reserve.new.self in
    let added = c.insert_reserved-key in
    let same : room.slots ≡ i.taken.slots = ap (λ (s : Slab (List Lock)). s.slots) c.in_ok-reserve.ensures.rest_kept in
    let counted = subst (λ (t : Table). AreCounted t i.counts) (sym same) c.self.invariant in
    let adds = subst (λ (ls : List Lock). AddsAll i.counts c.add_all.new.counts ls) c.as_slice.ensures c.in_ok-add_all.ensures.ok in
    put_counts room.slots added.new.self.slots i.counts c.add_all.new.counts added.result c.args.locks added.ensures.was_vacant
    (record { changed = added.ensures.updates.changed; others = added.ensures.updates.others }) adds counted
