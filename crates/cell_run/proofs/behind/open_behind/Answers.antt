use Rattle.cell_run.proofs.Going.{list_behind}
use Rattle.cell_run.proofs.behind.open_behind.Goals as goal

pub returns-in-Err-clause-back : goal.returns-in-Err-clause-back
returns-in-Err-clause-back g c = list_behind c.args.history c.into_list.result c.into_list.ensures c.requires.none
