use Rattle.std.proofs.Common.{◌≡◌, ap, ◌∙◌}
use Rattle.cell_journal.specs.declared.clocks.Clocks.{Clocks}
use Rattle.cell_journal.specs.Clocks.{are_clocks_kept}
use Rattle.cell_journal.specs.Identity.{Closed}
use Rattle.cell_journal.specs.WholeHistories.{whole_of}
use Rattle.cell_journal.proofs.closed_history.ClosedHistory.are_clocks_kept.Goals as goal

pub returns : goal.returns
returns c = ap (λ (k : Clocks). k.kept) c.self.invariant.2 ∙ ap (λ (f : Closed). are_clocks_kept f.cell (whole_of f)) c.self.view_is
