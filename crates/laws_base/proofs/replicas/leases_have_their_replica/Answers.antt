use Rattle.laws_base.proofs.HeldReplicas.{leases_have_their_replica}
use Rattle.laws_base.proofs.replicas.leases_have_their_replica.Goals as goal

pub returns : goal.returns
returns c = leases_have_their_replica
