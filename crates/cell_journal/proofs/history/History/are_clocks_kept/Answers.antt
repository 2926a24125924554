use Rattle.std.proofs.Common.{◌≡◌, ap, ◌∙◌}
use Rattle.cell_journal.specs.declared.clocks.Clocks.{Clocks}
use Rattle.cell_journal.specs.Clocks.{are_clocks_kept}
use Rattle.cell_journal.specs.Identity.{Filled}
use Rattle.cell_journal.specs.WholeHistories.{history_of}
use Rattle.cell_journal.proofs.history.History.are_clocks_kept.Goals as goal

pub returns : goal.returns
returns c = ap (λ (k : Clocks). k.kept) c.self.invariant.6 ∙ ap (λ (f : Filled). are_clocks_kept f.cell (history_of f.cell f.entries)) c.self.view_is
