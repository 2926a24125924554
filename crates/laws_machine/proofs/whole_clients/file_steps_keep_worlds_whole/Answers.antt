use Rattle.laws_machine.proofs.WholeClients.{file_steps_keep_worlds_whole}
use Rattle.laws_machine.proofs.whole_clients.file_steps_keep_worlds_whole.Goals as goal

pub returns : goal.returns
returns c = file_steps_keep_worlds_whole
