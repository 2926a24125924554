use Rattle.std.proofs.Common.{◌≡◌, sym, subst}
use Rattle.oplog.specs.declared.fault.LogFault.TheVariants as faults
use Rattle.oplog.proofs.Refusing.{handed_back}
use Rattle.oplog.specs.Reopening.{IsReopened}
use Rattle.oplog.proofs.log.Log.open.Goals as goal

pub returns-in_err-log-clause-undamaged : goal.returns-in_err-log-clause-undamaged
returns-in_err-log-clause-undamaged g c items records log =
    handed_back c.from_residual.result (λ e. e.1 ≡ faults.Damaged → ⊥) c.in_err-log.field-0.0 c.from_residual.ensures.1 (c.in_err-log.ensures.undamaged items records log)

pub returns-in-Err-clause-read_of_error : goal.returns-in-Err-clause-read_of_error
returns-in-Err-clause-read_of_error g c =
    subst (λ d. IsReopened (g.D.Disk.seen c.args.disk) (g.D.Disk.seen d)) (sym c.into_disk.ensures) c.in_ok-log.ensures.read
