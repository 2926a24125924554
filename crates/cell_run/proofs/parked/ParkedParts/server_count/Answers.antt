use Rattle.std.proofs.Common.{sym, ap, ◌∙◌}
use Rattle.cell_run.specs.Parked.{ParkedState}
use Rattle.cell_run.proofs.parked.ParkedParts.server_count.Goals as goal

pub returns : goal.returns
returns c = sym c.self.invariant.servers_are ∙ ap (λ (p : ParkedState). p.journal.cell.servers) c.self.view_is
