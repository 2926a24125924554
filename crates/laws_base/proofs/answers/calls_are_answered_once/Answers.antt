use Rattle.laws_base.proofs.ClientEvents.{counted}
use Rattle.laws_base.proofs.answers.calls_are_answered_once.Goals as goal

pub returns : goal.returns
returns c = counted
