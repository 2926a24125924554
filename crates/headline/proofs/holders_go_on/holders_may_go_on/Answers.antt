use Rattle.headline.proofs.HoldersGoOn.{holders_may_go_on}
use Rattle.headline.proofs.holders_go_on.holders_may_go_on.Goals as goal

pub returns : goal.returns
returns c = holders_may_go_on
