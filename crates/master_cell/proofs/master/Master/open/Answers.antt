use Rattle.std.proofs.Common.{◌≡◌, arith}
use Rattle.operation_log.specs.declared.fault.OperationLogFault.TheVariants as log
use Rattle.protocol.specs.declared.down_cause.DownCause.TheVariants as cause
use Rattle.master_cell.proofs.Disks.{not_read, not_up, opens_over}
use Rattle.master_cell.proofs.master.Master.open.Goals as goal

-- its log could not be opened
pub returns-in-Err-clause-fails : goal.returns-in-Err-clause-fails
returns-in-Err-clause-fails g c =
    not_read g.D.Disk.seen g.D.Disk.may_leave g.D.Disk.moment g.D.Disk.left_since c.args.config c.args.servers c.args.disk c.args.now.0 c.in-Err.disk c.in-Err.ensures.read_of_error
    c.in-Err.ensures.any_moment_of_error

pub returns-in-Err-clause-cause : goal.returns-in-Err-clause-cause
returns-in-Err-clause-cause g c e = let same : c.in-Err.fault ≡ log.Device = cc in c.in-Err.ensures.cause same

pub returns-in-Err-clause-undamaged : goal.returns-in-Err-clause-undamaged
returns-in-Err-clause-undamaged g c items records stood e = let same : c.in-Err.fault ≡ log.Damaged = cc in c.in-Err.ensures.undamaged items records stood same

pub returns-in-Err-clause-device : goal.returns-in-Err-clause-device
returns-in-Err-clause-device g c e = absurd cc

pub returns-in-Err-clause-room : goal.returns-in-Err-clause-room
returns-in-Err-clause-room g c e = absurd cc

-- the master can't be up over it
pub returns-in-Err-open-clause-fails : goal.returns-in-Err-open-clause-fails
returns-in-Err-open-clause-fails g c =
    not_up g.D.Disk.seen g.D.Disk.may_leave g.D.Disk.moment g.D.Disk.left_since c.args.config c.args.servers c.args.disk c.args.now.0 c.into_disk.result c.in-Ok.log.disk c.in-Err-open.log.disk
    c.in-Err-open.log.under_way c.in-Ok.ensures.opened c.in-Err-open.ensures.fails c.into_disk.ensures.left

pub returns-in-Err-open-clause-cause : goal.returns-in-Err-open-clause-cause
returns-in-Err-open-clause-cause g c e = absurd cc

pub returns-in-Err-open-clause-undamaged : goal.returns-in-Err-open-clause-undamaged
returns-in-Err-open-clause-undamaged g c items records stood e = absurd cc

pub returns-in-Err-open-clause-device : goal.returns-in-Err-open-clause-device
returns-in-Err-open-clause-device g c e =
    let same : c.in-Err-open.cause ≡ cause.Device = cc in
    let more = c.in-Err-open.ensures.device same in
    omega (arith, c.in-Ok.ensures.later, c.into_disk.ensures.failed, more)

pub returns-in-Err-open-clause-room : goal.returns-in-Err-open-clause-room
returns-in-Err-open-clause-room g c e =
    let same : c.in-Err-open.cause ≡ cause.NoRoom = cc in
    record { log = c.in-Ok.log.disk; stood = c.in-Ok.ensures.opened; full = c.in-Err-open.ensures.room same }

-- it is up
pub returns-clause-opens : goal.returns-clause-opens
returns-clause-opens g c =
    opens_over c.args.config c.args.servers (g.D.Disk.seen c.args.disk) c.args.now.0 c.in-Ok-open.master.state c.in-Ok.log.disk c.in-Ok.ensures.opened c.in-Ok-open.ensures.opens
