use Rattle.laws_machine.proofs.FileSteps.{file_steps_are_followed}
use Rattle.laws_machine.proofs.file_steps.file_steps_are_followed.Goals as goal

pub returns : goal.returns
returns c = file_steps_are_followed
