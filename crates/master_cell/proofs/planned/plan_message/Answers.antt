use Rattle.std.proofs.Common.{◌≡◌, false, rules}
use Rattle.master_cell.specs.Kinds.{is_name}
use Rattle.master_cell.proofs.Parts.{unnamed}
use Rattle.master_cell.proofs.planned.plan_message.Goals as goal

pub returns-in_ok-takes_unnamed-in_default : goal.returns-in_ok-takes_unnamed-in_default
returns-in_ok-takes_unnamed-in_default g c =
    let other : is_name c.args.message.now.body ≡ false = search rules in
    unnamed (g.L.OperationLog.disk c.args.log.now) c.args.plan.now c.takes_unnamed.new.plan c.args.message.now c.args.message.now.body other c.in_ok-takes_unnamed-in_default.ensures
