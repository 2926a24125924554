use Rattle.laws_names.proofs.Followed.{client_calls_are_followed}
use Rattle.laws_names.proofs.beside_clients.client_calls_are_followed.Goals as goal

pub returns : goal.returns
returns c = client_calls_are_followed
