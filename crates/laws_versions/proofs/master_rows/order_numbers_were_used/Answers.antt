use Rattle.laws_versions.proofs.MasterRows.{order_numbers_were_used}
use Rattle.laws_versions.proofs.master_rows.order_numbers_were_used.Goals as goal

pub returns : goal.returns
returns c = order_numbers_were_used
