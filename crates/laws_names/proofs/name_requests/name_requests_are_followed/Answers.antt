use Rattle.laws_names.proofs.NameRequestsBeside.{name_requests_are_followed}
use Rattle.laws_names.proofs.name_requests.name_requests_are_followed.Goals as goal

pub returns : goal.returns
returns c = name_requests_are_followed
