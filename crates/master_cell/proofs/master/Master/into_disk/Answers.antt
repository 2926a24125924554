use Rattle.std.proofs.Common.{ap, ◌∙◌}
use Rattle.master_cell.specs.Standing.{LoggedMasterState}
use Rattle.master_cell.proofs.Disks.{leaves_as}
use Rattle.master_cell.proofs.master.Master.into_disk.Goals as goal

pub returns-clause-left : goal.returns-clause-left
returns-clause-left g c =
    leaves_as g.D.Disk.may_leave c.into_disk.result c.into_log.result.disk c.args.self.state.disk c.into_log.result.under_way c.args.self.state.under_way
    (c.into_log.ensures.disk ∙ ap (λ (m : LoggedMasterState). m.state.disk) c.self.view_is) (c.into_log.ensures.under_way ∙ ap (λ (m : LoggedMasterState). m.state.under_way) c.self.view_is) c.into_disk.ensures.left

pub returns-clause-failed : goal.returns-clause-failed
returns-clause-failed g c = c.into_disk.ensures.failed ∙ c.into_log.ensures.failed ∙ ap (λ (m : LoggedMasterState). m.failed) c.self.view_is
