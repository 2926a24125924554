use Rattle.std.proofs.Common.{◌≡◌, sym, subst, arith}
use Rattle.std.specs.Prelude.{Err}
use Rattle.log_codec.specs.declared.fault.DecodeFault.TheVariants.{Damaged}
use Rattle.oplog.specs.Areas.{AreaSays}
use Rattle.oplog.proofs.Disks.{area_lies}
use Rattle.oplog.proofs.Whole.{current_bytes, read_open}
use Rattle.oplog.proofs.reading.read_again.Goals as goal

pub read_range-requires : goal.read_range-requires
read_range-requires g c =
    let log = c.args.volume.now in
    let is_open = c.requires.1 in
    omega (arith, is_open.start, is_open.room, area_lies log.size log.which is_open.large is_open.says.one_of_two, is_open.says.sized)

pub returns-in-Ok-clause-walk : goal.returns-in-Ok-clause-walk
returns-in-Ok-clause-walk g c area is_open =
    let seen = g.D.Disk.seen in
    let log = c.args.volume.now in
    let same = current_bytes seen g.D.Disk.may_leave log area is_open c.in_ok-bytes.bytes.items c.in_ok-bytes.ensures.bytes in
    c.in-Ok.ensures.walk area (subst (AreaSays area) (sym same) is_open.says.says)

pub returns-in-Err-Damaged-clause-undamaged : goal.returns-in-Err-Damaged-clause-undamaged
returns-in-Err-Damaged-clause-undamaged g c damaged =
    let seen = g.D.Disk.seen in
    let log = c.args.volume.now in
    let area = c.requires.0 in
    let is_open = c.requires.1 in
    let same = current_bytes seen g.D.Disk.may_leave log area is_open c.in_ok-bytes.bytes.items c.in_ok-bytes.ensures.bytes in
    let one = c.in-Err-Damaged.is in
    let two = c.in-Err-Damaged.field-0-is in
    let told : c.begin.result ≡ Err Damaged = cc in
    c.begin.ensures.undamaged area (subst (AreaSays area) (sym same) is_open.says.says) told

pub returns-in_err-bytes-clause-open : goal.returns-in_err-bytes-clause-open
returns-in_err-bytes-clause-open g c area is_open =
    let disk = g.D.Disk in
    read_open disk.seen disk.may_leave disk.moment disk.left_since c.args.volume.now c.read_range.new.disk area c.read_range.ensures.reads is_open

pub returns-in-Ok-clause-open : goal.returns-in-Ok-clause-open
returns-in-Ok-clause-open g c area is_open =
    let disk = g.D.Disk in
    read_open disk.seen disk.may_leave disk.moment disk.left_since c.args.volume.now c.read_range.new.disk area c.read_range.ensures.reads is_open

pub returns-in-Err-Damaged-clause-open : goal.returns-in-Err-Damaged-clause-open
returns-in-Err-Damaged-clause-open g c area is_open =
    let disk = g.D.Disk in
    read_open disk.seen disk.may_leave disk.moment disk.left_since c.args.volume.now c.read_range.new.disk area c.read_range.ensures.reads is_open

pub returns-in-Err-NoMemory-clause-open : goal.returns-in-Err-NoMemory-clause-open
returns-in-Err-NoMemory-clause-open g c area is_open =
    let disk = g.D.Disk in
    read_open disk.seen disk.may_leave disk.moment disk.left_since c.args.volume.now c.read_range.new.disk area c.read_range.ensures.reads is_open
