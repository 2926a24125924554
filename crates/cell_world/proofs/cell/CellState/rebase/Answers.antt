use Rattle.cell_world.proofs.Restarting.{rebased}
use Rattle.cell_world.proofs.cell.CellState.rebase.Goals as goal

pub returns-clause-ok : goal.returns-clause-ok
returns-clause-ok g c = rebased c.args.self.now c.restart_all.new.self c.drop_messages.new.self c.args.now.0 c.restart_all.ensures c.drop_messages.ensures
