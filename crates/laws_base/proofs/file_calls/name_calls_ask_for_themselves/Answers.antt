use Rattle.laws_base.proofs.NameSteps.{name_calls_ask_first, name_calls_ask_again}
use Rattle.laws_base.proofs.file_calls.name_calls_ask_for_themselves.Goals as goal

pub returns-clause-first : goal.returns-clause-first
returns-clause-first c = name_calls_ask_first

pub returns-clause-again : goal.returns-clause-again
returns-clause-again c = name_calls_ask_again
