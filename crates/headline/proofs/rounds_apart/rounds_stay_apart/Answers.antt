use Rattle.headline.proofs.RoundsApart.{rounds_stay_apart}
use Rattle.headline.proofs.rounds_apart.rounds_stay_apart.Goals as goal

pub returns : goal.returns
returns c = rounds_stay_apart
