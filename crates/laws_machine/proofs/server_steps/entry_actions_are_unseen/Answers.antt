use Rattle.laws_machine.proofs.ServerSteps.{entry_actions_are_unseen}
use Rattle.laws_machine.proofs.server_steps.entry_actions_are_unseen.Goals as goal

pub returns : goal.returns
returns c = entry_actions_are_unseen
