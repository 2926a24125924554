use Rattle.std.proofs.Common.{ap}
use Rattle.master_cell.specs.Standing.{LoggedMasterState}
use Rattle.master_cell.proofs.Steps.{is_standing}
use Rattle.master_cell.proofs.logged_master.LoggedMaster.is_up.Goals as goal

pub returns : goal.returns
returns g c =
    let i = c.self.inside in
    is_standing i.up (g.L.OperationLog.disk i.log) (g.L.OperationLog.under_way i.log) i.config i.server_count i.plan c.args.self.now.state (ap (λ (x : LoggedMasterState). x.state) c.self.view_is)
