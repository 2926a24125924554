use Rattle.std.proofs.Common.{ap, ◌∙◌}
use Rattle.cell_journal.specs.Identity.{Identity}
use Rattle.cell_journal.specs.Log.{listed}
use Rattle.cell_run.proofs.Going.{list_behind}
use Rattle.cell_run.proofs.behind.registry_of.Goals as goal

pub returns-in-Err-clause-back : goal.returns-in-Err-clause-back
returns-in-Err-clause-back g c =
    list_behind c.reclaim.result c.into_list.result c.into_list.ensures c.reclaim.ensures.none ∙ ap (λ (i : Identity). listed i.name i.base) (c.reclaim.ensures.cell ∙ ap (λ m. m.0.of) c.requires.first)
