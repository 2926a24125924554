use Rattle.laws_versions.proofs.ToldVersions.{holders_were_ordered}
use Rattle.laws_versions.proofs.told_versions.holders_were_ordered.Goals as goal

pub returns : goal.returns
returns c = holders_were_ordered
