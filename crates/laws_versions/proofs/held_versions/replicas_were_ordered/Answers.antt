use Rattle.laws_versions.proofs.HeldVersions.{replicas_were_ordered}
use Rattle.laws_versions.proofs.held_versions.replicas_were_ordered.Goals as goal

pub returns : goal.returns
returns c = replicas_were_ordered
