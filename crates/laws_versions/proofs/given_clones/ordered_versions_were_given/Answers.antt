use Rattle.laws_versions.proofs.GivenClones.{ordered_versions_were_given}
use Rattle.laws_versions.proofs.given_clones.ordered_versions_were_given.Goals as goal

pub returns : goal.returns
returns c = ordered_versions_were_given
