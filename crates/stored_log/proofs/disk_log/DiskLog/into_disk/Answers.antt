use Rattle.std.proofs.Common.{ap, ◌∙◌}
use Rattle.stored_log.specs.Kept.{DiskLogState}
use Rattle.stored_log.proofs.Keeping.{closed_leaves}
use Rattle.stored_log.proofs.Reopening.{disk_decided}
use Rattle.stored_log.proofs.disk_log.DiskLog.into_disk.Goals as goal

pub returns-clause-left : goal.returns-clause-left
returns-clause-left g c =
    let was = c.self.inside in
    let disk = g.D.Disk in
    let left = closed_leaves disk.seen disk.may_leave was.log was.standing c.is_open-is_open.ensures.durable c.self.invariant.0 in
    rw (← c.self.view_is, c.into_disk.ensures) (disk_decided disk.may_leave was.log.disk was.log.area.items was.log.area.records was.standing left)

pub returns-clause-failed : goal.returns-clause-failed
returns-clause-failed g c = ap g.D.Disk.failed c.into_disk.ensures ∙ ap (λ (l : DiskLogState). l.failed) c.self.view_is
