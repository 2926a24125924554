use Rattle.std.proofs.Common.{ap, ◌∙◌}
use Rattle.cell_journal.specs.Identity.{Filled}
use Rattle.cell_journal.specs.Log.{listed}
use Rattle.cell_run.proofs.Going.{list_behind}
use Rattle.cell_run.proofs.behind.new_registry.Goals as goal

pub returns-in-Err-clause-back : goal.returns-in-Err-clause-back
returns-in-Err-clause-back g c =
    let back = c.in-Err.ensures.back in
    list_behind c.in-Err.history c.into_list.result c.into_list.ensures (ap (λ (h : Filled). h.entries) back ∙ c.requires.none) ∙ ap (λ (h : Filled). listed h.cell.name h.cell.base) back
