use Rattle.laws_base.proofs.Within.{entries_lie_within_the_chunk}
use Rattle.laws_base.proofs.placed_entries.entries_lie_within_the_chunk.Goals as goal

pub returns : goal.returns
returns c = entries_lie_within_the_chunk
