use Rattle.laws_versions.proofs.MasterRows.{copied_leases_have_ended}
use Rattle.laws_versions.proofs.master_rows.copied_leases_have_ended.Goals as goal

pub returns : goal.returns
returns c = copied_leases_have_ended
