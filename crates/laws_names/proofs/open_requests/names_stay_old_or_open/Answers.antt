use Rattle.laws_names.proofs.OpenRequestsLemmas.{names_stay_old_or_open}
use Rattle.laws_names.proofs.open_requests.names_stay_old_or_open.Goals as goal

pub returns : goal.returns
returns c = names_stay_old_or_open
