use Rattle.std.proofs.Common.{◌∙◌, sym}
use Rattle.serve.proofs.Printed.{meets_so}
use Rattle.serve.proofs.printing.PrintedAnswers.meet.Goals as goal

pub meet-requires : goal.meet-requires
meet-requires g c = c.self.invariant.answered.of.name ∙ sym c.other.invariant.answered.of.name

pub returns : goal.returns
returns g c = meets_so _ _ _ _ c.self.view_is c.other.view_is c.meet.ensures
