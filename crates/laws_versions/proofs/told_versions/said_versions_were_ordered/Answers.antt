use Rattle.laws_versions.proofs.ToldVersions.{said_versions_were_ordered}
use Rattle.laws_versions.proofs.told_versions.said_versions_were_ordered.Goals as goal

pub returns : goal.returns
returns c = said_versions_were_ordered
