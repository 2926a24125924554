use Rattle.std.proofs.Common.{◌≡◌, ◌+◌, ◌-◌, length, ap, arith}
use Rattle.std.specs.Prelude.{Err}
use Rattle.oplog.specs.Entries.{entries}
use Rattle.oplog.proofs.Refusing.{handed_on}
use Rattle.oplog.specs.declared.fault.LogFault.TheVariants.{NoMemory}
use Rattle.oplog.proofs.Replacing.{nothing_replaced, once_closed, once_written, opened, stays_open, until_closed, until_written}
use Rattle.oplog.proofs.checkpointing.checkpoint.Goals as goal

pub returns-in_err-close_if_open-clause-any_moment : goal.returns-in_err-close_if_open-clause-any_moment
returns-in_err-close_if_open-clause-any_moment g c area is_open =
    let disk = g.D.Disk in
    let log = c.args.volume.now in
    let told = c.forget_past.ensures in
    until_closed disk.seen disk.may_leave disk.moment disk.left_since log area is_open c.args.items.now (λ f left. g.met.D.Disk.only_now log.disk f left) c.forget_past.new.self told.seen told.crash told.time
    c.area_at-start.result c.area_at-start.ensures.place c.close_if_open.new.disk c.close_if_open.ensures.any_moment

pub returns-in_err-write_area-clause-any_moment : goal.returns-in_err-write_area-clause-any_moment
returns-in_err-write_area-clause-any_moment g c area is_open =
    let disk = g.D.Disk in
    let log = c.args.volume.now in
    let told = c.forget_past.ensures in
    let closed = c.in_ok-close_if_open.ensures in
    let number : c.in-Some.number ≡ area.number + 1 = omega (arith, c.in-Some.ensures, is_open.number) in
    until_written disk.seen disk.may_leave disk.moment disk.left_since log area is_open c.args.items.now (λ f left. g.met.D.Disk.only_now log.disk f left) c.forget_past.new.self told.seen told.crash told.time
    c.area_at-start.result c.area_at-start.ensures.place c.close_if_open.new.disk closed.changed closed.closed c.in-Some.number number c.close_if_open.ensures.any_moment c.write_area.new.disk c.write_area.ensures.any_moment

pub returns-clause-any_moment : goal.returns-clause-any_moment
returns-clause-any_moment g c area is_open =
    let disk = g.D.Disk in
    let log = c.args.volume.now in
    let told = c.forget_past.ensures in
    let closed = c.in_ok-close_if_open.ensures in
    let number : c.in-Some.number ≡ area.number + 1 = omega (arith, c.in-Some.ensures, is_open.number) in
    until_written disk.seen disk.may_leave disk.moment disk.left_since log area is_open c.args.items.now (λ f left. g.met.D.Disk.only_now log.disk f left) c.forget_past.new.self told.seen told.crash told.time
    c.area_at-start.result c.area_at-start.ensures.place c.close_if_open.new.disk closed.changed closed.closed c.in-Some.number number c.close_if_open.ensures.any_moment c.write_area.new.disk c.write_area.ensures.any_moment

pub returns-in_err-write_area-clause-still_open : goal.returns-in_err-write_area-clause-still_open
returns-in_err-write_area-clause-still_open g c area is_open refused =
    let disk = g.D.Disk in
    let log = c.args.volume.now in
    let told = c.forget_past.ensures in
    let closed = c.in_ok-close_if_open.ensures in
    let none = handed_on c.from_residual-in_err-write_area.result c.in_err-write_area.field-0.0 NoMemory c.from_residual-in_err-write_area.ensures.1 refused in
    let left = c.in_err-write_area.ensures.refused (ap Err none) in
    stays_open disk.seen disk.may_leave disk.moment disk.left_since log area is_open c.args.items.now (λ f left. g.met.D.Disk.only_now log.disk f left) c.forget_past.new.self told.seen told.crash told.time
    c.area_at-start.result c.area_at-start.ensures.place c.close_if_open.new.disk closed.changed closed.closed c.write_area.new.disk left.0 left.1

pub returns-clause-ok : goal.returns-clause-ok
returns-clause-ok g c area is_open =
    let disk = g.D.Disk in
    let log = c.args.volume.now in
    let told = c.forget_past.ensures in
    let closed = c.in_ok-close_if_open.ensures in
    let wrote = c.in_ok-write_area.ensures in
    let number : c.in-Some.number ≡ area.number + 1 = omega (arith, c.in-Some.ensures, is_open.number) in
    let left : length (entries c.args.items.now) + c.in-Some-room_left.left ≡ log.room - 14 = omega (arith, c.in-Some-room_left.ensures.left, c.saturating_sub.ensures) in
    opened disk.seen disk.may_leave disk.moment disk.left_since log area is_open c.args.items.now (λ f left. g.met.D.Disk.only_now log.disk f left) c.forget_past.new.self told.seen told.crash told.time
    c.area_at-start.result c.area_at-start.ensures.place c.close_if_open.new.disk closed.changed closed.closed c.in-Some.number number c.in-Some-room_left.left c.write_area.new.disk left wrote.says wrote.elsewhere wrote.durable

pub returns-in_err-close_if_open-clause-read : goal.returns-in_err-close_if_open-clause-read
returns-in_err-close_if_open-clause-read g c area is_open =
    let disk = g.D.Disk in
    let log = c.args.volume.now in
    let told = c.forget_past.ensures in
    once_closed disk.seen disk.may_leave disk.moment disk.left_since log area is_open c.args.items.now (λ f left. g.met.D.Disk.only_now log.disk f left) c.forget_past.new.self told.seen told.crash told.time
    c.area_at-start.result c.area_at-start.ensures.place (disk.seen c.close_if_open.new.disk) c.close_if_open.ensures.read

pub returns-in_err-write_area-clause-read : goal.returns-in_err-write_area-clause-read
returns-in_err-write_area-clause-read g c area is_open =
    let disk = g.D.Disk in
    let log = c.args.volume.now in
    let told = c.forget_past.ensures in
    let closed = c.in_ok-close_if_open.ensures in
    let number : c.in-Some.number ≡ area.number + 1 = omega (arith, c.in-Some.ensures, is_open.number) in
    once_written disk.seen disk.may_leave disk.moment disk.left_since log area is_open c.args.items.now (λ f left. g.met.D.Disk.only_now log.disk f left) c.forget_past.new.self told.seen told.crash told.time
    c.area_at-start.result c.area_at-start.ensures.place c.close_if_open.new.disk closed.changed closed.closed c.in-Some.number number (disk.seen c.write_area.new.disk) c.write_area.ensures.read

pub returns-clause-read : goal.returns-clause-read
returns-clause-read g c area is_open =
    let disk = g.D.Disk in
    let log = c.args.volume.now in
    let told = c.forget_past.ensures in
    let closed = c.in_ok-close_if_open.ensures in
    let number : c.in-Some.number ≡ area.number + 1 = omega (arith, c.in-Some.ensures, is_open.number) in
    once_written disk.seen disk.may_leave disk.moment disk.left_since log area is_open c.args.items.now (λ f left. g.met.D.Disk.only_now log.disk f left) c.forget_past.new.self told.seen told.crash told.time
    c.area_at-start.result c.area_at-start.ensures.place c.close_if_open.new.disk closed.changed closed.closed c.in-Some.number number (disk.seen c.write_area.new.disk) c.write_area.ensures.read
