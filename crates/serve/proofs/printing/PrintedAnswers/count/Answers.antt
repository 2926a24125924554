use Rattle.std.proofs.Common.{subst}
use Rattle.serve.specs.Printing.{IsPrintedOf}
use Rattle.serve.proofs.printing.PrintedAnswers.count.Goals as goal

pub returns-clause-printed : goal.returns-clause-printed
returns-clause-printed g c = subst (IsPrintedOf g.S.Serving.of) c.self.view_is c.self.invariant
