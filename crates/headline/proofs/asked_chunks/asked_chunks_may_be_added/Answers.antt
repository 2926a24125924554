use Rattle.headline.proofs.AskedChunks.{asked_chunks_may_be_added}
use Rattle.headline.proofs.asked_chunks.asked_chunks_may_be_added.Goals as goal

pub returns : goal.returns
returns c = asked_chunks_may_be_added
