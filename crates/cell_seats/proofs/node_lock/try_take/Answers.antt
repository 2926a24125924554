use Rattle.std.proofs.Common.{arith}
use mathlib.Core.Option.{none}
use Rattle.atomic_table.specs.Table.{step}
use Rattle.cell_seats.proofs.NodeLocks.{takes_node}
use Rattle.cell_seats.proofs.node_lock.try_take.Goals as goal

pub swap_new_seat-found-requires : goal.swap_new_seat-found-requires
swap_new_seat-found-requires g c = (omega (arith, c.requires.0), takes_node c.args.lock.now.key c.args.lock.now.table_id.slots (step c.args.lock.now.table_id.slots 0 1 0 none))
