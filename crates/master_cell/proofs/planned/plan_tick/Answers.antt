use Rattle.master_cell.proofs.Parts.{ticks}
use Rattle.master_cell.proofs.planned.plan_tick.Goals as goal

pub returns : goal.returns
returns g c = ticks (g.L.OperationLog.disk c.args.log.now) c.args.plan.now c.master_ticks.new.plan c.in_ok-master_ticks.ensures
