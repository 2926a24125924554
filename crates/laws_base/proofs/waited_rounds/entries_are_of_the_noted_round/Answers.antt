use Rattle.laws_base.proofs.NotedRounds.{entries_are_of_the_noted_round}
use Rattle.laws_base.proofs.waited_rounds.entries_are_of_the_noted_round.Goals as goal

pub returns : goal.returns
returns c = entries_are_of_the_noted_round
