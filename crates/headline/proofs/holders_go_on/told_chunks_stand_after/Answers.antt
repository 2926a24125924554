use Rattle.headline.proofs.ToldStands.{told_chunks_stand_after}
use Rattle.headline.proofs.holders_go_on.told_chunks_stand_after.Goals as goal

pub returns : goal.returns
returns c = told_chunks_stand_after
