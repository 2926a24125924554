use Rattle.laws_names.proofs.FollowedStepsReached.{steps_are_followed}
use Rattle.laws_names.proofs.followed_steps.steps_are_followed.Goals as goal

pub returns : goal.returns
returns c = steps_are_followed
