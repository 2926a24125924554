use Rattle.laws_versions.proofs.CopySources.{copies_are_of_closed_versions}
use Rattle.laws_versions.proofs.cloned_versions.copies_are_of_closed_versions.Goals as goal

pub returns : goal.returns
returns c = copies_are_of_closed_versions
