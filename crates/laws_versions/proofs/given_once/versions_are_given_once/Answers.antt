use Rattle.laws_versions.proofs.GivenOnce.{versions_are_given_once}
use Rattle.laws_versions.proofs.given_once.versions_are_given_once.Goals as goal

pub returns : goal.returns
returns c = versions_are_given_once
