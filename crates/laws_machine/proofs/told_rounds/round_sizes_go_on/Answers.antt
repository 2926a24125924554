use Rattle.laws_machine.proofs.RoundSizes.{round_sizes_go_on}
use Rattle.laws_machine.proofs.told_rounds.round_sizes_go_on.Goals as goal

pub returns : goal.returns
returns c = round_sizes_go_on
