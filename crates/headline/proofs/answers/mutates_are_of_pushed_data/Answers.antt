use Rattle.headline.proofs.PushedMutates.{mutates_are_of_pushed_data}
use Rattle.headline.proofs.answers.mutates_are_of_pushed_data.Goals as goal

pub returns : goal.returns
returns c = mutates_are_of_pushed_data
