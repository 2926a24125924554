use Rattle.laws_machine.proofs.FileAnswers.{locations_are_offered}
use Rattle.laws_machine.proofs.file_answers.locations_are_offered.Goals as goal

pub returns : goal.returns
returns c = locations_are_offered
