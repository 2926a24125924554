use Rattle.laws_machine.proofs.FullBefore.{asks_past_a_chunk_find_it_full}
use Rattle.laws_machine.proofs.full_before.asks_past_a_chunk_find_it_full.Goals as goal

pub returns : goal.returns
returns c = asks_past_a_chunk_find_it_full
