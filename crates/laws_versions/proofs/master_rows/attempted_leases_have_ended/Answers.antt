use Rattle.laws_versions.proofs.MasterRows.{attempted_leases_have_ended}
use Rattle.laws_versions.proofs.master_rows.attempted_leases_have_ended.Goals as goal

pub returns : goal.returns
returns c = attempted_leases_have_ended
