use Rattle.relaxed_file.proofs.GivenReads.{name_calls_answer_one_moment, opens_find_their_file}
use Rattle.relaxed_file.proofs.laws.name_calls_answer_one_moment.Goals as goal

pub returns-clause-replies : goal.returns-clause-replies
returns-clause-replies c = name_calls_answer_one_moment

pub returns-clause-opens : goal.returns-clause-opens
returns-clause-opens c = opens_find_their_file
