use Rattle.laws_machine.proofs.ClientFiles.{clients_files_are_open}
use Rattle.laws_machine.proofs.client_files.clients_files_are_open.Goals as goal

pub returns : goal.returns
returns c = clients_files_are_open
