use Rattle.laws_versions.proofs.MasterRows.{grants_agree_with_rows}
use Rattle.laws_versions.proofs.master_rows.grants_agree_with_rows.Goals as goal

pub returns : goal.returns
returns c = grants_agree_with_rows
