use Rattle.cell_seats.proofs.NodeLocks.{lends, lent, has_still}
use Rattle.cell_seats.proofs.node_lock.exchange.Goals as goal

pub exchange-requires : goal.exchange-requires
exchange-requires g c = let h = c.requires.has.1 in (c.requires.table, (h.0, lends c.args.place.now.me.1 h.0 h.1))

pub returns-clause-has : goal.returns-clause-has
returns-clause-has g c =
    let h = c.requires.has in
    has_still c.args.lock.now.key c.args.place.now.me c.exchange.new.seat.me h.1.0 c.args.slot h.0 h.1.1 c.exchange.ensures.3 c.requires.guards

pub returns-clause-slot : goal.returns-clause-slot
returns-clause-slot g c =
    let h = c.requires.has.1 in
    lent c.args.lock.now.key c.args.place.now.me.1 c.exchange.result h.0 c.exchange.ensures.2 h.1 h.2
