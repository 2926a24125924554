use Rattle.std.proofs.Common.{◌≡◌, ℕ, ◌+◌, ◌-◌, ◌<◌, ◌^◌, List, length, ap, ◌∙◌, arith}
use Rattle.std.proofs.lemmas.Result.{on_ok_weaker}
use Rattle.disk.specs.Bytes.{put_at}
use Rattle.disk_redo.specs.Moments.{is_outside}
use Rattle.disk_redo.specs.Redo.{redo_bytes, redo_in, stands_for}
use Rattle.disk_redo.proofs.Places.{misses_part}
use Rattle.disk_redo.proofs.Runs.{begun}
use Rattle.disk_redo.proofs.Stands.{staged, staging}
use Rattle.disk_redo.proofs.Whole.{stands_after}
use Rattle.disk_redo.proofs.staging.stage.Goals as goal

pub returns-in_err-write_ranges-clause-closed : goal.returns-in_err-write_ranges-clause-closed
returns-in_err-write_ranges-clause-closed g c =
    let disk = g.D.Disk in
    let old = c.args.disk.now in
    let area = c.args.area in
    let kept = is_outside (area.place + 1) (area.size - 1) in
    let room = c.requires.fits.room in
    let start = begun disk.seen disk.may_leave disk.moment disk.left_since kept old (λ f left. g.met.D.Disk.only_now old f left) in
    let run = c.write_ranges.ensures.goes_on old kept (misses_part kept (area.place + 1) (area.size - 1) (area.place + 1) (length (redo_bytes c.args.ranges.now)) (omega arith) (omega (arith, room)) (λ place h. h)) (c.begin.ensures.goes_on old kept start) in
    (staging area (disk.seen old) (disk.seen c.write_ranges.new.disk) c.requires.area c.requires.rest.closed run.read).0

pub returns-in_err-write_ranges-clause-stands : goal.returns-in_err-write_ranges-clause-stands
returns-in_err-write_ranges-clause-stands g c =
    let disk = g.D.Disk in
    let old = c.args.disk.now in
    let area = c.args.area in
    let kept = is_outside (area.place + 1) (area.size - 1) in
    let room = c.requires.fits.room in
    let start = begun disk.seen disk.may_leave disk.moment disk.left_since kept old (λ f left. g.met.D.Disk.only_now old f left) in
    let run = c.write_ranges.ensures.goes_on old kept (misses_part kept (area.place + 1) (area.size - 1) (area.place + 1) (length (redo_bytes c.args.ranges.now)) (omega arith) (omega (arith, room)) (λ place h. h)) (c.begin.ensures.goes_on old kept start) in
    stands_after disk.seen disk.may_leave disk.moment disk.left_since area kept (λ bytes. bytes ≡ stands_for area (disk.seen old)) old c.write_ranges.new.disk c.requires.rest.durable
    (λ d k. (staging area (disk.seen old) d c.requires.area c.requires.rest.closed k).1) run

pub returns-clause-redo : goal.returns-clause-redo
returns-clause-redo g c =
    let area = c.args.area in
    let old = g.D.Disk.seen c.args.disk.now in
    let small : length old < 2 ^ 64 = omega (arith, c.size-size.ensures, c.size-size.type_inv) in
    on_ok_weaker c.sync.result
    (λ d. ap (λ (l : List ℕ). redo_in area l) (c.sync.ensures.seen ∙ c.in_ok-write_ranges.ensures.written ∙ ap (λ (l : List ℕ). put_at l (area.place + 1) (redo_bytes c.args.ranges.now)) c.begin.ensures.seen) ∙ staged area old c.args.ranges.now c.requires.area c.requires.fits small)
    c.sync.ensures.durable

pub returns-clause-stands : goal.returns-clause-stands
returns-clause-stands g c =
    let disk = g.D.Disk in
    let old = c.args.disk.now in
    let area = c.args.area in
    let kept = is_outside (area.place + 1) (area.size - 1) in
    let room = c.requires.fits.room in
    let start = begun disk.seen disk.may_leave disk.moment disk.left_since kept old (λ f left. g.met.D.Disk.only_now old f left) in
    let run = c.sync.ensures.goes_on old kept (c.write_ranges.ensures.goes_on old kept (misses_part kept (area.place + 1) (area.size - 1) (area.place + 1) (length (redo_bytes c.args.ranges.now)) (omega arith) (omega (arith, room)) (λ place h. h)) (c.begin.ensures.goes_on old kept start)) in
    stands_after disk.seen disk.may_leave disk.moment disk.left_since area kept (λ bytes. bytes ≡ stands_for area (disk.seen old)) old c.sync.new.disk c.requires.rest.durable
    (λ d k. (staging area (disk.seen old) d c.requires.area c.requires.rest.closed k).1) run
