use Rattle.cell_seats.proofs.NodeLocks.{opens_node}
use Rattle.cell_seats.proofs.node_lock.table_of.Goals as goal

pub new-requires : goal.new-requires
new-requires g c = rw c.requires (opens_node c.args.name.now)
