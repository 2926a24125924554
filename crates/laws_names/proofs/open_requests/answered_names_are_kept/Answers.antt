use Rattle.laws_names.proofs.OpenRequestsLemmas.{answered_names_are_kept}
use Rattle.laws_names.proofs.open_requests.answered_names_are_kept.Goals as goal

pub returns : goal.returns
returns c = answered_names_are_kept
