use Rattle.laws_base.proofs.LeftMasters.{restarts_of_what_is_left}
use Rattle.laws_base.proofs.laws.restarts_of_what_is_left.Goals as goal

pub returns : goal.returns
returns c = restarts_of_what_is_left
