use Rattle.std.proofs.Common.{refl, inl, ap, arith}
use Rattle.cell_run.specs.Parked.{ParkedState}
use Rattle.cell_run.proofs.parked.ParkedParts.may_resume.Goals as goal

pub returns-then-not-are_few-clause-why : goal.returns-then-not-are_few-clause-why
returns-then-not-are_few-clause-why g c =
    inl (refl, omega (arith, c.are_few.ensures.many c.if-not-are_few.true, ap (λ (p : ParkedState). p.made) c.self.view_is, c.count_anew.ensures))

pub returns-clause-few : goal.returns-clause-few
returns-clause-few g c = omega (arith, c.are_few.ensures.few c.if-not-are_few.false, ap (λ (p : ParkedState). p.made) c.self.view_is, c.count_anew.ensures)
