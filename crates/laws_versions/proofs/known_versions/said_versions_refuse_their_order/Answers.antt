use Rattle.laws_versions.proofs.SaidVersions.{said_versions_refuse_their_order}
use Rattle.laws_versions.proofs.known_versions.said_versions_refuse_their_order.Goals as goal

pub returns : goal.returns
returns c = said_versions_refuse_their_order
