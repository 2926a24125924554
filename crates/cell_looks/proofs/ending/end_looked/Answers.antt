use Rattle.std.proofs.Common.{ap, ◌∙◌}
use Rattle.cell_journal.specs.Identity.{Closed}
use Rattle.cell_looks.proofs.EndedWorlds.{still_world}
use Rattle.cell_looks.proofs.ending.end_looked.Goals as goal

pub returns-in-Ok-clause-cell : goal.returns-in-Ok-clause-cell
returns-in-Ok-clause-cell g c = ap (λ (j : Closed). j.cell) c.close-journal.ensures ∙ c.in_ok-parked.ensures.cell

pub returns-in-Ok-clause-over : goal.returns-in-Ok-clause-over
returns-in-Ok-clause-over g c = ap (λ (j : Closed). j.is_over) c.close-journal.ensures

pub returns-in-Ok-clause-regions : goal.returns-in-Ok-clause-regions
returns-in-Ok-clause-regions g c =
    let found = c.in-Ok.ensures in
    (found.0, still_world c.in_ok-parked.parked.journal c.close-journal.result.now found.0 c.close-journal.ensures found.1, found.2)
