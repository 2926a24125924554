use Rattle.cell_core.proofs.CellLaws.{has_one_lasting}
use Rattle.cell_core.proofs.laws.one_lease_lasts.Goals as goal

pub returns : goal.returns
returns c = has_one_lasting
