use Rattle.laws_versions.proofs.GivenClones.{copied_versions_were_given}
use Rattle.laws_versions.proofs.given_clones.copied_versions_were_given.Goals as goal

pub returns : goal.returns
returns c = copied_versions_were_given
