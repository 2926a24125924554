use Rattle.laws_machine.proofs.FileAnswers.{reads_are_looks}
use Rattle.laws_machine.proofs.file_answers.reads_are_looks.Goals as goal

pub returns : goal.returns
returns c = reads_are_looks
