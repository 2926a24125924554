use Rattle.laws_names.proofs.OpenRequestsLemmas.{old_or_open_names_are_requests}
use Rattle.laws_names.proofs.open_requests.old_or_open_names_are_requests.Goals as goal

pub returns : goal.returns
returns c = old_or_open_names_are_requests
