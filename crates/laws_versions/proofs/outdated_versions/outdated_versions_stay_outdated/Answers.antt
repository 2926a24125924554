use Rattle.laws_versions.proofs.DropLaws.{outdated_versions_stay_outdated}
use Rattle.laws_versions.proofs.outdated_versions.outdated_versions_stay_outdated.Goals as goal

pub returns : goal.returns
returns c = outdated_versions_stay_outdated
