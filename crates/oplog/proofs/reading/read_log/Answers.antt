use Rattle.std.proofs.Common.{List, ℕ, length, sym, subst, ◌∙◌}
use Rattle.std.specs.Prelude.{IfOk}
use Rattle.oplog.specs.Areas.{AreaSays}
use Rattle.oplog.specs.Disks.{area_of}
use Rattle.oplog.specs.Opening.{area_found}
use Rattle.oplog.proofs.SecondGate.{upgraded_area, upgraded_current, upgraded_found}
use Rattle.oplog.proofs.reading.read_log.Goals as goal

pub returns-clause-found : goal.returns-clause-found
returns-clause-found g c =
    let d = g.D.Disk.seen c.args.disk.now in
    let told = c.read_current.ensures in
    let which = c.in-Some.which in
    let result = c.read_current.result in
    let says = subst (λ (l : List ℕ). IfOk result (λ x. AreaSays (area_found x) (area_of (length l) which l))) c.find_current.ensures.reads.seen_same told.says in
    upgraded_found d c.requires.large which (sym c.in_ok-current.ensures.current ∙ c.in-Some.is) result c.requires.headed told.which says told.end told.walk

pub returns-in_default-clause-undamaged : goal.returns-in_default-clause-undamaged
returns-in_default-clause-undamaged g c which area says damaged =
    let d = g.D.Disk.seen c.args.disk.now in
    c.in_default.not-Some which (c.in_ok-current.ensures.current ∙ upgraded_current d c.requires.large which area says)

pub returns-clause-undamaged : goal.returns-clause-undamaged
returns-clause-undamaged g c which area says damaged =
    let d = g.D.Disk.seen c.args.disk.now in
    let here = upgraded_area d c.requires.large c.in-Some.which (sym c.in_ok-current.ensures.current ∙ c.in-Some.is) which area says in
    let there = subst (λ (l : List ℕ). AreaSays area (area_of (length l) c.in-Some.which l)) (sym c.find_current.ensures.reads.seen_same) here in
    c.read_current.ensures.undamaged area there damaged
