use Rattle.laws_names.proofs.FollowedStepsReached.{steps_go_by_records}
use Rattle.laws_names.proofs.name_trails.steps_go_by_records.Goals as goal

pub returns : goal.returns
returns c = steps_go_by_records
