use Rattle.headline.proofs.FullAsks.{asks_are_full}
use Rattle.headline.proofs.asked_chunks.asks_are_full.Goals as goal

pub returns : goal.returns
returns c = asks_are_full
