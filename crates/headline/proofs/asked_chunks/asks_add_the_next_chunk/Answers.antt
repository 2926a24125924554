use Rattle.headline.proofs.AskedAdds.{asks_add_the_next_chunk}
use Rattle.headline.proofs.asked_chunks.asks_add_the_next_chunk.Goals as goal

pub returns : goal.returns
returns c = asks_add_the_next_chunk
