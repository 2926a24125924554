use Rattle.laws_names.proofs.NameRequestsBeside.{looks_are_followed}
use Rattle.laws_names.proofs.name_requests.looks_are_followed.Goals as goal

pub returns : goal.returns
returns c = looks_are_followed
