use Rattle.laws_versions.proofs.LeaseLaws.{revoked_leases_are_over}
use Rattle.laws_versions.proofs.lease_words.revoked_leases_are_over.Goals as goal

pub returns : goal.returns
returns c = revoked_leases_are_over
