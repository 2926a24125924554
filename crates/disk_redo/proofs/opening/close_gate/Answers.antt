use Rattle.std.proofs.Common.{◌≡◌, ℕ, List}
use Rattle.disk_redo.specs.Moments.{is_outside}
use Rattle.disk_redo.specs.Redo.{stands_for}
use Rattle.disk_redo.proofs.Runs.{begun}
use Rattle.disk_redo.proofs.Whole.{stands_after}
use Rattle.disk_redo.proofs.Shutting.{shutting}
use Rattle.disk_redo.proofs.opening.close_gate.Goals as goal

pub returns-in_err-write-clause-stands : goal.returns-in_err-write-clause-stands
returns-in_err-write-clause-stands g c =
    let disk = g.D.Disk in
    let old = c.args.disk.now in
    let area = c.args.area in
    let kept = is_outside area.place 1 in
    let first = begun disk.seen disk.may_leave disk.moment disk.left_since kept old (λ f left. g.met.D.Disk.only_now old f left) in
    stands_after disk.seen disk.may_leave disk.moment disk.left_since area kept (λ bytes. bytes ≡ stands_for area (disk.seen old)) old c.write.new.disk c.requires.durable
    (λ d k. shutting area (disk.seen old) d c.requires.area c.requires.redo k)
    (c.write.ensures.goes_on old kept (λ place h. h) first)

pub returns-clause-stands : goal.returns-clause-stands
returns-clause-stands g c =
    let disk = g.D.Disk in
    let old = c.args.disk.now in
    let area = c.args.area in
    let kept = is_outside area.place 1 in
    let first = begun disk.seen disk.may_leave disk.moment disk.left_since kept old (λ f left. g.met.D.Disk.only_now old f left) in
    stands_after disk.seen disk.may_leave disk.moment disk.left_since area kept (λ bytes. bytes ≡ stands_for area (disk.seen old)) old c.sync.new.disk c.requires.durable
    (λ d k. shutting area (disk.seen old) d c.requires.area c.requires.redo k)
    (c.sync.ensures.goes_on old kept (c.write.ensures.goes_on old kept (λ place h. h) first))
