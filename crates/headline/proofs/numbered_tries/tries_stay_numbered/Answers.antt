use Rattle.headline.proofs.TriesStay.{tries_stay_numbered}
use Rattle.headline.proofs.numbered_tries.tries_stay_numbered.Goals as goal

pub returns : goal.returns
returns c = tries_stay_numbered
