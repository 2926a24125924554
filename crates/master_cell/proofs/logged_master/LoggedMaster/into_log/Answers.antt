use Rattle.std.proofs.Common.{ap}
use Rattle.master_cell.specs.Standing.{LoggedMasterState}
use Rattle.master_cell.proofs.Restarts.{shows}
use Rattle.master_cell.proofs.logged_master.LoggedMaster.into_log.Goals as goal

pub returns-clause-disk : goal.returns-clause-disk
returns-clause-disk g c =
    (shows c.self.inside.up (g.L.OperationLog.disk c.self.inside.log) (g.L.OperationLog.under_way c.self.inside.log) c.self.inside.config c.self.inside.server_count c.self.inside.plan c.args.self.state
    (ap (λ (x : LoggedMasterState). x.state) c.self.view_is) c.self.invariant.2).disk_is

pub returns-clause-under_way : goal.returns-clause-under_way
returns-clause-under_way g c =
    (shows c.self.inside.up (g.L.OperationLog.disk c.self.inside.log) (g.L.OperationLog.under_way c.self.inside.log) c.self.inside.config c.self.inside.server_count c.self.inside.plan c.args.self.state
    (ap (λ (x : LoggedMasterState). x.state) c.self.view_is) c.self.invariant.2).under_way_is

pub returns-clause-failed : goal.returns-clause-failed
returns-clause-failed g c = ap (λ (x : LoggedMasterState). x.failed) c.self.view_is
