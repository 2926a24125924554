use Rattle.shell.proofs.Counted.{answers_once}
use Rattle.shell.proofs.laws.calls_are_answered_once.Goals as goal

pub returns : goal.returns
returns c = answers_once (λ h. h)
