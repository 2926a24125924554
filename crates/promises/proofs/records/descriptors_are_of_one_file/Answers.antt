use Rattle.promises.proofs.AnswerMoments.{descriptors_are_of_one_file}
use Rattle.promises.proofs.records.descriptors_are_of_one_file.Goals as goal

pub returns : goal.returns
returns c = descriptors_are_of_one_file
