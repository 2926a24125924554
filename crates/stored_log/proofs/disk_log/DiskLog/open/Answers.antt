use Rattle.std.proofs.Common.{arith}
use Rattle.stored_log.proofs.Causes.{damaged_alone, device_alone}
use Rattle.stored_log.proofs.disk_log.DiskLog.open.Goals as goal

pub returns-in-Err-clause-undamaged : goal.returns-in-Err-clause-undamaged
returns-in-Err-clause-undamaged g c items records log e =
    damaged_alone c.in-Err.fault c.fault_of.result c.fault_of.ensures.value c.in-Err.ensures.not_full (c.in-Err.ensures.undamaged items records log) e

pub returns-in-Err-clause-cause : goal.returns-in-Err-clause-cause
returns-in-Err-clause-cause g c e = device_alone c.in-Err.fault c.fault_of.result c.fault_of.ensures.value c.in-Err.ensures.cause e

pub returns-in-Ok-clause-later : goal.returns-in-Ok-clause-later
returns-in-Ok-clause-later g c = omega (arith, c.in-Ok.ensures.later, c.of_opened.ensures.log)
