use Rattle.std.proofs.Common.{ap}
use Rattle.master_cell.specs.Standing.{LoggedMasterState}
use Rattle.master_cell.proofs.Files.{stopped}
use Rattle.master_cell.proofs.logged_master.LoggedMaster.stop.Goals as goal

pub returns-clause-state : goal.returns-clause-state
returns-clause-state g c =
    let i = c.self.inside in
    stopped i.up (g.L.OperationLog.disk i.log) (g.L.OperationLog.under_way i.log) i.config i.server_count i.plan c.args.self.now.state c.requires (ap (λ (x : LoggedMasterState). x.state) c.self.view_is) c.self.invariant.2

pub returns-clause-failed : goal.returns-clause-failed
returns-clause-failed g c = ap (λ (x : LoggedMasterState). x.failed) c.self.view_is
