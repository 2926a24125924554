use Rattle.laws_machine.proofs.FileAnswers.{settled_entries_are_successes}
use Rattle.laws_machine.proofs.file_answers.settled_entries_are_successes.Goals as goal

pub returns : goal.returns
returns c = settled_entries_are_successes
