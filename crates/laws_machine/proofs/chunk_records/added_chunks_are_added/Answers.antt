use Rattle.laws_machine.proofs.Adds.{added_chunks_are_added}
use Rattle.laws_machine.proofs.chunk_records.added_chunks_are_added.Goals as goal

pub returns : goal.returns
returns c = added_chunks_are_added
