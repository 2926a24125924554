use Rattle.laws_machine.proofs.Answerers.{attempts_are_answered_by_servers}
use Rattle.laws_machine.proofs.call_steps.attempts_are_answered_by_servers.Goals as goal

pub returns : goal.returns
returns c = attempts_are_answered_by_servers
