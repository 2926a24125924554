use Rattle.cell_core.proofs.CellLaws.{grants_versions_once}
use Rattle.cell_core.proofs.laws.versions_are_granted_once.Goals as goal

pub returns : goal.returns
returns c = grants_versions_once
