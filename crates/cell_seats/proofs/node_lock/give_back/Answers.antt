use Rattle.std.proofs.Common.{arith}
use mathlib.Core.Option.{none}
use Rattle.atomic_table.specs.Table.{step}
use Rattle.cell_seats.proofs.NodeLocks.{gives_node}
use Rattle.cell_seats.proofs.node_lock.give_back.Goals as goal

pub store-requires : goal.store-requires
store-requires g c =
    let t = c.requires.lock in
    let v = c.requires.has in
    (t.2, omega (arith, t.0), rw v.1.1 (gives_node c.args.lock.now.key c.args.lock.now.table_id.slots c.args.place.id c.args.place.me.0 v.1.0 (step c.args.lock.now.table_id.slots 0 0 0 none) t.1 v.1.2))
