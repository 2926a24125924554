use Rattle.laws_versions.proofs.MasterRows.{rows_are_of_used_handles}
use Rattle.laws_versions.proofs.master_rows.rows_are_of_used_handles.Goals as goal

pub returns : goal.returns
returns c = rows_are_of_used_handles
