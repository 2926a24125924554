use Rattle.std.proofs.Common.{ap, ◌∙◌}
use Rattle.cell_journal.specs.Identity.{Identity}
use Rattle.cell_journal.specs.Log.{listed}
use Rattle.cell_run.proofs.Going.{list_behind}
use Rattle.cell_run.proofs.behind.Behind.give_back.Goals as goal

pub with_list-requires : goal.with_list-requires
with_list-requires g c =
    list_behind c.reclaim.result c.into_list.result c.into_list.ensures c.reclaim.ensures.none ∙ ap (λ (i : Identity). listed i.name i.base) (c.reclaim.ensures.cell ∙ c.requires.cell_is)
