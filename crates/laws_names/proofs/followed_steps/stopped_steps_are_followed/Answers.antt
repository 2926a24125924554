use Rattle.laws_names.proofs.FollowedStepsReached.{stopped_steps_are_followed}
use Rattle.laws_names.proofs.followed_steps.stopped_steps_are_followed.Goals as goal

pub returns : goal.returns
returns c = stopped_steps_are_followed
