use Rattle.laws_versions.proofs.KnownVersions.{known_versions_refuse_their_order}
use Rattle.laws_versions.proofs.known_versions.known_versions_refuse_their_order.Goals as goal

pub returns : goal.returns
returns c = known_versions_refuse_their_order
