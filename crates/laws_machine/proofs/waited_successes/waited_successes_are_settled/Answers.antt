use Rattle.laws_machine.proofs.WaitedSuccesses.{waited_successes_are_settled}
use Rattle.laws_machine.proofs.waited_successes.waited_successes_are_settled.Goals as goal

pub returns : goal.returns
returns c = waited_successes_are_settled
