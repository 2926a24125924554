use Rattle.laws_names.proofs.Openings.{restarts_are_followed}
use Rattle.laws_names.proofs.followed_steps.restarts_are_followed.Goals as goal

pub returns : goal.returns
returns c = restarts_are_followed
