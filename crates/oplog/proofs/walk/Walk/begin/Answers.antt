use Rattle.std.proofs.Common.{refl, sym, ap, ◌∙◌, arith}
use Rattle.std.specs.Prelude.{Err}
use Rattle.oplog.specs.Entries.{entries}
use Rattle.oplog.proofs.AreaRefusing.{handed_on}
use Rattle.oplog.proofs.Walks.{begun}
use Rattle.oplog.proofs.walk.Walk.begin.Goals as goal

pub returns-clause-walk : goal.returns-clause-walk
returns-clause-walk c area says =
    let parts = c.in_ok-parts.parts in
    let found = c.in_ok-parts.ensures.found in
    begun _ area parts.0 parts.1.now parts.2.now found.0 found.1 (sym c.deref.ensures.value ∙ found.2) says refl (omega arith) refl

pub returns-in_err-parts-clause-undamaged : goal.returns-in_err-parts-clause-undamaged
returns-in_err-parts-clause-undamaged c area says damaged =
    c.in_err-parts.ensures.undamaged area.number (entries area.items) says.rest says.number_fits says.length_fits (c.deref.ensures.value ∙ says.parts)
    (ap Err (handed_on c.from_residual.result c.in_err-parts.field-0.0 c.from_residual.ensures.1 damaged))
