use Rattle.laws_machine.proofs.CountedCalls.{calls_are_counted}
use Rattle.laws_machine.proofs.counted_calls.calls_are_counted.Goals as goal

pub returns : goal.returns
returns c = calls_are_counted
