use Rattle.laws_machine.proofs.FileAnswers.{lengths_are_measured}
use Rattle.laws_machine.proofs.file_answers.lengths_are_measured.Goals as goal

pub returns : goal.returns
returns c = lengths_are_measured
