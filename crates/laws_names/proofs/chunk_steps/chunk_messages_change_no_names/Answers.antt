use Rattle.laws_names.proofs.ChunkStepsBeside.{chunk_messages_change_no_names}
use Rattle.laws_names.proofs.chunk_steps.chunk_messages_change_no_names.Goals as goal

pub returns : goal.returns
returns c = chunk_messages_change_no_names
