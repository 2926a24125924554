use Rattle.headline.proofs.AddedChunks.{added_chunks_are_asked_for}
use Rattle.headline.proofs.asked_chunks.added_chunks_are_asked_for.Goals as goal

pub returns : goal.returns
returns c = added_chunks_are_asked_for
