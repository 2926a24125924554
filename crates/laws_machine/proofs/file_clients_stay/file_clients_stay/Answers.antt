use Rattle.laws_machine.proofs.FileClientsStay.{file_clients_stay}
use Rattle.laws_machine.proofs.file_clients_stay.file_clients_stay.Goals as goal

pub returns : goal.returns
returns c = file_clients_stay
