use Rattle.laws_versions.proofs.AttemptedNumbers.{attempts_are_of_the_last_version}
use Rattle.laws_versions.proofs.master_rows.attempts_are_of_the_last_version.Goals as goal

pub returns : goal.returns
returns c = attempts_are_of_the_last_version
