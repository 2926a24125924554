use Rattle.laws_machine.proofs.Plain.{other_changes_keep_chunks}
use Rattle.laws_machine.proofs.chunk_records.other_changes_keep_chunks.Goals as goal

pub returns : goal.returns
returns c = other_changes_keep_chunks
