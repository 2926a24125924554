use Rattle.cell_world.proofs.Happened.{late_restart, restarted}
use Rattle.cell_world.proofs.cell.CellState.restart.Goals as goal

pub returns-then-now-gt-MAX_MOMENT : goal.returns-then-now-gt-MAX_MOMENT
returns-then-now-gt-MAX_MOMENT g c = late_restart c.args.self.now c.args.node c.args.now c.if-now-gt-MAX_MOMENT.true

pub returns : goal.returns
returns g c = restarted c.args.self.now _ c.args.node c.args.now _ c.if-now-gt-MAX_MOMENT.false c.restarts.ensures
