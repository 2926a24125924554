use Rattle.laws_versions.proofs.LeaseWords.{leases_are_said_to_one_server}
use Rattle.laws_versions.proofs.lease_words.leases_are_said_to_one_server.Goals as goal

pub returns : goal.returns
returns c = leases_are_said_to_one_server
