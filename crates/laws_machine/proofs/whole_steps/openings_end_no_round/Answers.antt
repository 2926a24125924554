use Rattle.laws_machine.proofs.WholeRestarts.{openings_end_no_round}
use Rattle.laws_machine.proofs.whole_steps.openings_end_no_round.Goals as goal

pub returns : goal.returns
returns c = openings_end_no_round
