use Rattle.headline.proofs.QuietTries.{quiet_actions_add_no_tries}
use Rattle.headline.proofs.numbered_tries.quiet_actions_add_no_tries.Goals as goal

pub returns : goal.returns
returns c = quiet_actions_add_no_tries
