use Rattle.laws_machine.proofs.ToldRounds.{no_round_is_told_at_first}
use Rattle.laws_machine.proofs.told_rounds.no_round_is_told_at_first.Goals as goal

pub returns : goal.returns
returns c = no_round_is_told_at_first
