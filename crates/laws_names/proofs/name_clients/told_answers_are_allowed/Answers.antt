use Rattle.laws_names.proofs.Answers.{told_answers_are_allowed, name_calls_may_give_up}
use Rattle.laws_names.proofs.name_clients.told_answers_are_allowed.Goals as goal

pub returns-clause-told : goal.returns-clause-told
returns-clause-told c = told_answers_are_allowed

pub returns-clause-unknown : goal.returns-clause-unknown
returns-clause-unknown c = name_calls_may_give_up
