use Rattle.laws_machine.proofs.NotesBelow.{notes_are_of_opened_rounds}
use Rattle.laws_machine.proofs.file_answers.notes_are_of_opened_rounds.Goals as goal

pub returns : goal.returns
returns c = notes_are_of_opened_rounds
