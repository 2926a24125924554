use Rattle.std.proofs.Common.{ap, arith}
use Rattle.cell_run.specs.Parked.{ParkedState}
use Rattle.cell_run.proofs.parked.ParkedParts.made_then.Goals as goal

pub sum_of-requires : goal.sum_of-requires
sum_of-requires c = omega (arith, c.requires, ap (λ (p : ParkedState). p.made) c.self.view_is, c.count_anew.ensures)

pub returns : goal.returns
returns c = omega (arith, c.sum_of.ensures, ap (λ (p : ParkedState). p.made) c.self.view_is, c.count_anew.ensures)
