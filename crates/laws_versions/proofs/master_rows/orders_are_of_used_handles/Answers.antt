use Rattle.laws_versions.proofs.MasterRows.{orders_are_of_used_handles}
use Rattle.laws_versions.proofs.master_rows.orders_are_of_used_handles.Goals as goal

pub returns : goal.returns
returns c = orders_are_of_used_handles
