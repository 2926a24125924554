use Rattle.laws_base.proofs.TakenSuccesses.{successes_are_of_the_noted_round}
use Rattle.laws_base.proofs.taken_successes.successes_are_of_the_noted_round.Goals as goal

pub returns : goal.returns
returns c = successes_are_of_the_noted_round
