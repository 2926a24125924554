use Rattle.laws_machine.proofs.OpenCalls.{attempts_are_over_or_open}
use Rattle.laws_machine.proofs.open_attempts.attempts_are_over_or_open.Goals as goal

pub returns : goal.returns
returns c = attempts_are_over_or_open
