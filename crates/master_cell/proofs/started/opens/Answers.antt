use Rattle.std.proofs.Common.{◌≡◌, sym, ap, ◌∙◌, rules}
use Rattle.protocol.specs.Logged.{Logged, replayed}
use Rattle.protocol.specs.MasterStep.{as_restarted}
use Rattle.master_cell.proofs.Openings.{opened_as, logged_as}
use Rattle.master_cell.proofs.started.opens.Goals as goal

pub returns-clause-plan : goal.returns-clause-plan
returns-clause-plan g c =
    let disk = g.L.OperationLog.disk c.args.log.now in
    let logged : Logged = c.restart.new.self in
    let is : logged ≡ as_restarted c.args.config c.args.now.0 (replayed disk) =
    c.restart.ensures c.args.config c.args.now.0 (search rules) (sym c.usual.ensures) ∙ ap (as_restarted c.args.config c.args.now.0) c.in-Ok.ensures.state in
    opened_as c.args.config c.args.server_count disk c.args.now.0 logged c.in_ok-plan.plan c.logs.new.plan c.epoch-epoch.result is (search rules) (search rules) (search rules)

pub returns-clause-logged : goal.returns-clause-logged
returns-clause-logged g c =
    let disk = g.L.OperationLog.disk c.args.log.now in
    let logged : Logged = c.restart.new.self in
    let is : logged ≡ as_restarted c.args.config c.args.now.0 (replayed disk) =
    c.restart.ensures c.args.config c.args.now.0 (search rules) (sym c.usual.ensures) ∙ ap (as_restarted c.args.config c.args.now.0) c.in-Ok.ensures.state in
    logged_as c.args.config c.args.server_count disk c.args.now.0 logged c.logs.new.plan c.epoch-epoch.result c.epoch.result is (search rules) (search rules)
