use Rattle.laws_base.proofs.SettledEntries.{successes_are_at_their_chunk}
use Rattle.laws_base.proofs.settled_entries.successes_are_at_their_chunk.Goals as goal

pub returns : goal.returns
returns c = successes_are_at_their_chunk
