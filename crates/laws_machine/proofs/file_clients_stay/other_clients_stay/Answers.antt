use Rattle.laws_machine.proofs.FileClientsStay.{other_clients_stay}
use Rattle.laws_machine.proofs.file_clients_stay.other_clients_stay.Goals as goal

pub returns : goal.returns
returns c = other_clients_stay
