use Rattle.std.proofs.Common.{◌≡◌, ◌+◌, ◌≤◌, ℕ, List, [], ◌∷◌, length, refl, sym, ap, subst, ◌∙◌, false, true, arith}
use Rattle.disk_redo.proofs.Moments.{joined, weaker}
use Rattle.oplog.specs.Disks.{is_formatted, DiskSays}
use Rattle.oplog.specs.Writing.{area_with, IsWriting}
use Rattle.oplog.specs.NewLogs.{IsLogOf}
use Rattle.oplog.proofs.Formatting.{empty_fits, empty_short, first_says, new_log, second_still_closed, still_new_behind}
use Rattle.oplog.proofs.new_log.format.Goals as goal

pub returns-in_err-close_areas-clause-any_moment : goal.returns-in_err-close_areas-clause-any_moment
returns-in_err-close_areas-clause-any_moment g c =
    weaker g.D.Disk.moment g.D.Disk.left_since c.args.disk.now c.close_areas.new.disk (λ f. is_formatted f ≡ false) (IsLogOf [] []) c.close_areas.ensures.any_moment new_log

pub returns-in_err-write_area-clause-any_moment : goal.returns-in_err-write_area-clause-any_moment
returns-in_err-write_area-clause-any_moment g c =
    let d = g.D.Disk.seen c.close_areas.new.disk in
    let closed = c.in_ok-close_areas.ensures in
    let large : 4096 ≤ length d = omega (arith, closed.size, c.requires.large) in
    joined g.D.Disk.moment g.D.Disk.left_since c.args.disk.now c.close_areas.new.disk c.write_area.new.disk (λ f. is_formatted f ≡ false) (IsWriting (length d) 0 (area_with 1 []) d) (IsLogOf [] []) c.close_areas.ensures.any_moment c.write_area.ensures.any_moment
    new_log (λ f stop. new_log f (still_new_behind d f large stop.elsewhere c.close_areas.ensures.read))

pub returns-in_err-write_head-clause-any_moment : goal.returns-in_err-write_head-clause-any_moment
returns-in_err-write_head-clause-any_moment g c =
    let d = g.D.Disk.seen c.close_areas.new.disk in
    let closed = c.in_ok-close_areas.ensures in
    let large : 4096 ≤ length d = omega (arith, closed.size, c.requires.large) in
    let two = joined g.D.Disk.moment g.D.Disk.left_since c.args.disk.now c.close_areas.new.disk c.write_area.new.disk (λ f. is_formatted f ≡ false) (IsWriting (length d) 0 (area_with 1 []) d) (IsLogOf [] []) c.close_areas.ensures.any_moment c.write_area.ensures.any_moment
    new_log (λ f stop. new_log f (still_new_behind d f large stop.elsewhere c.close_areas.ensures.read)) in
    joined g.D.Disk.moment g.D.Disk.left_since c.args.disk.now c.write_area.new.disk c.write_head.new.disk (IsLogOf [] []) (IsLogOf [] []) (IsLogOf [] []) two c.write_head.ensures.any_moment (λ f log. log) (λ f log. log)

pub returns-clause-any_moment : goal.returns-clause-any_moment
returns-clause-any_moment g c =
    let d = g.D.Disk.seen c.close_areas.new.disk in
    let closed = c.in_ok-close_areas.ensures in
    let large : 4096 ≤ length d = omega (arith, closed.size, c.requires.large) in
    let two = joined g.D.Disk.moment g.D.Disk.left_since c.args.disk.now c.close_areas.new.disk c.write_area.new.disk (λ f. is_formatted f ≡ false) (IsWriting (length d) 0 (area_with 1 []) d) (IsLogOf [] []) c.close_areas.ensures.any_moment c.write_area.ensures.any_moment
    new_log (λ f stop. new_log f (still_new_behind d f large stop.elsewhere c.close_areas.ensures.read)) in
    joined g.D.Disk.moment g.D.Disk.left_since c.args.disk.now c.write_area.new.disk c.write_head.new.disk (IsLogOf [] []) (IsLogOf [] []) (IsLogOf [] []) two c.write_head.ensures.any_moment (λ f log. log) (λ f log. log)

pub write_area-requires-clause-fits : goal.write_area-requires-clause-fits
write_area-requires-clause-fits g c =
    let d = g.D.Disk.seen c.close_areas.new.disk in
    empty_fits (length d) (omega (arith, c.in_ok-close_areas.ensures.size, c.requires.large))

pub write_area-requires-clause-short : goal.write_area-requires-clause-short
write_area-requires-clause-short g c = empty_short

pub write_head-requires-clause-new : goal.write_head-requires-clause-new
write_head-requires-clause-new g c =
    let d = g.D.Disk.seen c.close_areas.new.disk in
    let closed = c.in_ok-close_areas.ensures in
    let large : 4096 ≤ length d = omega (arith, closed.size, c.requires.large) in
    still_new_behind d (g.D.Disk.seen c.write_area.new.disk) large c.in_ok-write_area.ensures.elsewhere c.close_areas.ensures.read

pub write_head-requires-clause-first : goal.write_head-requires-clause-first
write_head-requires-clause-first g c =
    let d = g.D.Disk.seen c.close_areas.new.disk in
    let closed = c.in_ok-close_areas.ensures in
    let large : 4096 ≤ length d = omega (arith, closed.size, c.requires.large) in
    first_says d (g.D.Disk.seen c.write_area.new.disk) large c.in_ok-write_area.ensures.elsewhere c.in_ok-write_area.ensures.says

pub write_head-requires-clause-second : goal.write_head-requires-clause-second
write_head-requires-clause-second g c =
    let d = g.D.Disk.seen c.close_areas.new.disk in
    let closed = c.in_ok-close_areas.ensures in
    let large : 4096 ≤ length d = omega (arith, closed.size, c.requires.large) in
    second_still_closed d (g.D.Disk.seen c.write_area.new.disk) large c.in_ok-write_area.ensures.elsewhere closed.second

pub returns-clause-formatted : goal.returns-clause-formatted
returns-clause-formatted g c =
    subst (λ (k : ℕ). DiskSays k 0 (area_with 1 []) (g.D.Disk.seen c.write_head.new.disk)) (c.in_ok-write_area.ensures.elsewhere.size ∙ c.in_ok-close_areas.ensures.size) c.in_ok-write_head.ensures.formatted

pub returns-in_err-close_areas-clause-read : goal.returns-in_err-close_areas-clause-read
returns-in_err-close_areas-clause-read g c = new_log (g.D.Disk.seen c.close_areas.new.disk) c.close_areas.ensures.read

pub returns-in_err-write_area-clause-read : goal.returns-in_err-write_area-clause-read
returns-in_err-write_area-clause-read g c =
    let d = g.D.Disk.seen c.close_areas.new.disk in
    let f = g.D.Disk.seen c.write_area.new.disk in
    let closed = c.in_ok-close_areas.ensures in
    let large : 4096 ≤ length d = omega (arith, closed.size, c.requires.large) in
    new_log f (still_new_behind d f large c.write_area.ensures.read.elsewhere c.close_areas.ensures.read)
