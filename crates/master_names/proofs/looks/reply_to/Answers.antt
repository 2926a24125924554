use Rattle.gfs_types.specs.declared.call.Call.TheVariants as call
use Rattle.master_plan.specs.Plans.{known}
use Rattle.master_names.proofs.Refused.{told_so}
use Rattle.master_names.proofs.looks.reply_to.Goals as goal

pub returns-in_ok-is_busy-in-Open : goal.returns-in_ok-is_busy-in-Open
returns-in_ok-is_busy-in-Open g c =
    told_so c.open.result (known c.args.plan.now) c.args.call.now (call.Open c.in-Open.path) c.in_ok-is_busy-in-Open.is_busy c.state.result.now
    c.open.ensures c.state.ensures c.in-Open.is c.in_ok-is_busy-in-Open.ensures

pub returns-in_ok-is_busy-in-List : goal.returns-in_ok-is_busy-in-List
returns-in_ok-is_busy-in-List g c =
    told_so c.list.result (known c.args.plan.now) c.args.call.now (call.List c.in-List.path) c.in_ok-is_busy-in-List.is_busy c.state-in-List.result.now
    c.list.ensures c.state-in-List.ensures c.in-List.is c.in_ok-is_busy-in-List.ensures
