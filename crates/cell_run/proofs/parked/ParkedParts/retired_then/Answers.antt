use Rattle.std.proofs.Common.{ap, arith}
use Rattle.cell_run.specs.Parked.{ParkedState}
use Rattle.cell_run.proofs.parked.ParkedParts.retired_then.Goals as goal

pub returns : goal.returns
returns c = λ k past. c.without_stays.ensures k (omega (arith, ap (λ (p : ParkedState). p.made) c.self.view_is, past))
