use Rattle.laws_machine.proofs.FileAnswers.{collected_files_are_refused}
use Rattle.laws_machine.proofs.file_answers.collected_files_are_refused.Goals as goal

pub returns : goal.returns
returns c = collected_files_are_refused
