use Rattle.std.specs.Arc.{arc_value}
use Rattle.cell_nodes.proofs.NewLocks.{one_lock_more}
use Rattle.cell_nodes.proofs.node_locks.server_locks.Goals as goal

pub loop-before-preserved : goal.loop-before-preserved
loop-before-preserved c =
    one_lock_more arc_value c.args.cell.now c.loop-before.before c.loop-before.locks.items c.keep.new.all.items c.in_ok-lock.lock c.in_ok-keep.ensures c.in_ok-lock.ensures c.loop-before.invariant
