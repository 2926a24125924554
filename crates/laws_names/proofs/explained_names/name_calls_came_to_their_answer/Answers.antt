use Rattle.laws_names.proofs.Explained.{name_calls_came_to_their_answer}
use Rattle.laws_names.proofs.explained_names.name_calls_came_to_their_answer.Goals as goal

pub returns : goal.returns
returns c = name_calls_came_to_their_answer
