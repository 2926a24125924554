use Rattle.laws_versions.proofs.LeaseLaws.{told_ends_are_the_masters}
use Rattle.laws_versions.proofs.lease_words.told_ends_are_the_masters.Goals as goal

pub returns : goal.returns
returns c = told_ends_are_the_masters
