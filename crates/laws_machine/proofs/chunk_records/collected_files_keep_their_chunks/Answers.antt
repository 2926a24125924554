use Rattle.laws_machine.proofs.Collects.{collected_files_keep_their_chunks}
use Rattle.laws_machine.proofs.chunk_records.collected_files_keep_their_chunks.Goals as goal

pub returns : goal.returns
returns c = collected_files_keep_their_chunks
