use Rattle.cell_core.proofs.CellLaws.{log_has_all}
use Rattle.cell_core.proofs.laws.log_has_all.Goals as goal

pub returns : goal.returns
returns c = log_has_all
