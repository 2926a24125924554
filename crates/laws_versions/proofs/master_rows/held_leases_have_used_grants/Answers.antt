use Rattle.laws_versions.proofs.MasterRows.{held_leases_have_used_grants}
use Rattle.laws_versions.proofs.master_rows.held_leases_have_used_grants.Goals as goal

pub returns : goal.returns
returns c = held_leases_have_used_grants
