use Rattle.headline.proofs.RoundsApart.{logged_chunks_are_apart}
use Rattle.headline.proofs.rounds_apart.logged_chunks_are_apart.Goals as goal

pub returns : goal.returns
returns c = logged_chunks_are_apart
