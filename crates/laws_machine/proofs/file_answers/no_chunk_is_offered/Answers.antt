use Rattle.laws_machine.proofs.FileAnswers.{no_chunk_is_offered}
use Rattle.laws_machine.proofs.file_answers.no_chunk_is_offered.Goals as goal

pub returns : goal.returns
returns c = no_chunk_is_offered
