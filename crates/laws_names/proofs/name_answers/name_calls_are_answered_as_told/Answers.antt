use Rattle.laws_names.proofs.Steps.{name_calls_begin, name_calls_are_answered_as_told}
use Rattle.laws_names.proofs.name_answers.name_calls_are_answered_as_told.Goals as goal

pub returns-clause-begins : goal.returns-clause-begins
returns-clause-begins c = name_calls_begin

pub returns-clause-answered : goal.returns-clause-answered
returns-clause-answered c = name_calls_are_answered_as_told
