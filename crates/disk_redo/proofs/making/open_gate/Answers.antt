use Rattle.std.proofs.Common.{◌≡◌, ℕ, ◌+◌, List, [], ◌∷◌, ap, ◌∙◌, arith}
use Rattle.disk_redo.specs.Moments.{is_outside}
use Rattle.disk_redo.specs.Redo.{IsBeforeOrAfter, redo_in, stands_for}
use Rattle.std.proofs.lemmas.Result.{on_ok_weaker}
use Rattle.disk.specs.Bytes.{put_at}
use Rattle.disk_redo.proofs.Places.{put_keeps}
use Rattle.disk_redo.proofs.Runs.{begun}
use Rattle.disk_redo.proofs.Stands.{gate_put, opened, opening}
use Rattle.disk_redo.proofs.Whole.{stands_after}
use Rattle.disk_redo.proofs.making.open_gate.Goals as goal

pub returns-in_err-write-clause-stands : goal.returns-in_err-write-clause-stands
returns-in_err-write-clause-stands g c =
    let disk = g.D.Disk in
    let old = c.args.disk.now in
    let area = c.args.area in
    let kept = is_outside area.place 1 in
    let first = begun disk.seen disk.may_leave disk.moment disk.left_since kept old (λ f left. g.met.D.Disk.only_now old f left) in
    stands_after disk.seen disk.may_leave disk.moment disk.left_since area kept (IsBeforeOrAfter c.args.ranges.now (stands_for area (disk.seen old))) old c.write.new.disk c.requires.durable
    (λ d k. opening area (disk.seen old) d c.args.ranges.now c.requires.area c.requires.closed c.requires.redo k)
    (c.write.ensures.goes_on old kept (λ place h. h) first)

pub returns-clause-stands : goal.returns-clause-stands
returns-clause-stands g c =
    let disk = g.D.Disk in
    let old = c.args.disk.now in
    let area = c.args.area in
    let kept = is_outside area.place 1 in
    let first = begun disk.seen disk.may_leave disk.moment disk.left_since kept old (λ f left. g.met.D.Disk.only_now old f left) in
    stands_after disk.seen disk.may_leave disk.moment disk.left_since area kept (IsBeforeOrAfter c.args.ranges.now (stands_for area (disk.seen old))) old c.sync.new.disk c.requires.durable
    (λ d k. opening area (disk.seen old) d c.args.ranges.now c.requires.area c.requires.closed c.requires.redo k)
    (c.sync.ensures.goes_on old kept (c.write.ensures.goes_on old kept (λ place h. h) first))

pub returns-clause-redo : goal.returns-clause-redo
returns-clause-redo g c =
    let disk = g.D.Disk in
    let old = disk.seen c.args.disk.now in
    let area = c.args.area in
    let fits = c.requires.area in
    let least = fits.least in
    let within = fits.within in
    let is = c.sync.ensures.seen ∙ c.in_ok-write.ensures.written in
    let keeps = put_keeps old (1 ∷ []) area.place (omega (arith, least, within)) in
    let is_wide = gate_put area old 1 fits in
    on_ok_weaker c.sync.result (λ d. ap (λ (l : List ℕ). redo_in area l) is ∙ (opened area old (put_at old area.place (1 ∷ [])) c.args.ranges.now fits c.requires.closed c.requires.redo keeps is_wide).0) c.sync.ensures.durable

pub returns-clause-made : goal.returns-clause-made
returns-clause-made g c =
    let disk = g.D.Disk in
    let old = disk.seen c.args.disk.now in
    let area = c.args.area in
    let fits = c.requires.area in
    let least = fits.least in
    let within = fits.within in
    let is = c.sync.ensures.seen ∙ c.in_ok-write.ensures.written in
    let keeps = put_keeps old (1 ∷ []) area.place (omega (arith, least, within)) in
    let is_wide = gate_put area old 1 fits in
    on_ok_weaker c.sync.result (λ d. ap (λ (l : List ℕ). stands_for area l) is ∙ (opened area old (put_at old area.place (1 ∷ [])) c.args.ranges.now fits c.requires.closed c.requires.redo keeps is_wide).1) c.sync.ensures.durable
