use Rattle.std.proofs.Common.{refl}
use Rattle.cell_seats.proofs.NodeLocks.{lends, lent, has_still}
use Rattle.cell_seats.proofs.node_lock.act_at.Goals as goal

pub slot_mut-requires : goal.slot_mut-requires
slot_mut-requires g c = let h = c.requires.has.1 in (c.requires.table, (h.0, lends c.args.place.now.me.1 h.0 h.1))

pub returns-clause-has : goal.returns-clause-has
returns-clause-has g c =
    let h = c.requires.has in
    let here = lent c.args.lock.now.key c.args.place.now.me.1 c.slot_mut.result.now h.1.0 c.slot_mut.ensures.value h.1.1 h.1.2 in
    has_still c.args.lock.now.key c.args.place.now.me _ h.1.0 c.act_in.new.slot h.0 h.1.1 refl (c.act_in.ensures c.args.lock.now.key here)
