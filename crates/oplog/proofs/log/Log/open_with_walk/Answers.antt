use Rattle.std.proofs.Common.{◌≤◌, sym, ap, subst, ◌∙◌}
use Rattle.std.specs.Prelude.{Err}
use Rattle.oplog.specs.Reopening.{IsReopened}
use Rattle.oplog.proofs.log.Log.open_with_walk.Goals as goal

pub returns-in-Err-clause-undamaged : goal.returns-in-Err-clause-undamaged
returns-in-Err-clause-undamaged g c items records log damaged = c.open_disk.ensures.undamaged items records log (c.in-Err.is ∙ ap Err damaged)

pub returns-in-Ok-clause-read : goal.returns-in-Ok-clause-read
returns-in-Ok-clause-read g c = subst (λ d. IsReopened (g.D.Disk.seen c.args.disk) (g.D.Disk.seen d)) (sym c.of_found.ensures.disk) c.open_disk.ensures.read

pub returns-in-Ok-clause-later : goal.returns-in-Ok-clause-later
returns-in-Ok-clause-later g c = subst (λ d. g.D.Disk.failed c.args.disk ≤ g.D.Disk.failed d) (sym c.of_found.ensures.disk) c.open_disk.ensures.cause.later
