use Rattle.laws_machine.proofs.GrantsLast.{grants_are_last}
use Rattle.laws_machine.proofs.whole_steps.grants_are_last.Goals as goal

pub returns : goal.returns
returns c = grants_are_last
