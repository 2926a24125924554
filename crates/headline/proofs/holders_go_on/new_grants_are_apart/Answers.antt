use Rattle.headline.proofs.NewGrants.{new_grants_are_apart}
use Rattle.headline.proofs.holders_go_on.new_grants_are_apart.Goals as goal

pub returns : goal.returns
returns c = new_grants_are_apart
