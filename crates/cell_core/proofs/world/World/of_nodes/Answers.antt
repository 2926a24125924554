use Rattle.std.specs.Prelude.{length}
use Rattle.cell_core.proofs.Reached.{stands_new}
use Rattle.cell_core.proofs.world.World.of_nodes.Goals as goal

pub invariant_of-result : goal.invariant_of-result
invariant_of-result g c = stands_new c.args.config (length c.args.servers.items) c.args.clients c.in_ok-cell.cell c.in_ok-cell.ensures
