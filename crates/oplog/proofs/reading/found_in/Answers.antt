use Rattle.std.proofs.Common.{sym, ap, subst, ◌∙◌}
use Rattle.std.specs.Prelude.{Err}
use Rattle.oplog.specs.Areas.{AreaSays}
use Rattle.oplog.proofs.AreaRefusing.{handed_on}
use Rattle.oplog.proofs.Refused.{says_none}
use Rattle.oplog.proofs.reading.found_in.Goals as goal

pub returns-clause-walk : goal.returns-clause-walk
returns-clause-walk c =
    let area = c.in_ok-area.area in
    let says = subst (AreaSays area) c.deref.ensures.value c.in_ok-area.ensures.found in
    rw (c.into_parts-items.ensures.items, c.into_parts-items.ensures.records) (c.in_ok-walk.ensures.walk area says, c.in_ok-walk.ensures.place)

pub returns-in_err-area-clause-undamaged : goal.returns-in_err-area-clause-undamaged
returns-in_err-area-clause-undamaged c area says damaged =
    let fault = handed_on c.from_residual.result c.in_err-area.field-0.0 c.from_residual.ensures.1 damaged in
    says_none (λ a. a) c.read_area.result area (c.read_area.ensures.only area (subst (AreaSays area) (sym c.deref.ensures.value) says)) (c.in_err-area.was ∙ ap Err fault)

pub returns-in_err-walk-clause-undamaged : goal.returns-in_err-walk-clause-undamaged
returns-in_err-walk-clause-undamaged c area says damaged =
    let fault = handed_on c.from_residual-in_err-walk.result c.in_err-walk.field-0.0 c.from_residual-in_err-walk.ensures.1 damaged in
    c.in_err-walk.ensures.undamaged area says (ap Err fault)
