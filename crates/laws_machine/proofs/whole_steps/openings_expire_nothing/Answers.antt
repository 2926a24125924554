use Rattle.laws_machine.proofs.WholeRestarts.{openings_expire_nothing}
use Rattle.laws_machine.proofs.whole_steps.openings_expire_nothing.Goals as goal

pub returns : goal.returns
returns c = openings_expire_nothing
