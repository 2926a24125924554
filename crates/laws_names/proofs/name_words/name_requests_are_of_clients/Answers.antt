use Rattle.laws_names.proofs.NameWords.{name_requests_are_of_clients}
use Rattle.laws_names.proofs.name_words.name_requests_are_of_clients.Goals as goal

pub returns : goal.returns
returns c = name_requests_are_of_clients
