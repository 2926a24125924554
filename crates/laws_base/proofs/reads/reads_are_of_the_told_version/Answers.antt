use Rattle.laws_base.proofs.ReadAnswers.{reads_are_of_the_told_version}
use Rattle.laws_base.proofs.reads.reads_are_of_the_told_version.Goals as goal

pub returns : goal.returns
returns c = reads_are_of_the_told_version
