use Rattle.headline.proofs.Induction.{reached_worlds_are_whole}
use Rattle.headline.proofs.runs.reached_worlds_are_whole.Goals as goal

pub returns : goal.returns
returns c = reached_worlds_are_whole
