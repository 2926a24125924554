use Rattle.std.proofs.Common.{◌∙◌, sym, ap}
use Rattle.cell_journal.specs.Identity.{Identity, Closed}
use Rattle.serve.proofs.Printed.{begins_so}
use Rattle.serve.proofs.printing.PrintedAnswers.agree.Goals as goal

pub agree-requires : goal.agree-requires
agree-requires g c = c.self.invariant.answered.of.name ∙ sym (ap (λ (j : Closed). j.cell.name) c.history.ensures.history ∙ ap (λ (i : Identity). i.name) c.requires.cell)

pub returns : goal.returns
returns g c = begins_so _ _ _ _ c.self.view_is c.history.ensures.history c.agree.ensures c.requires.over
