use Rattle.laws_machine.proofs.Adds.{new_files_have_no_chunk}
use Rattle.laws_machine.proofs.chunk_records.new_files_have_no_chunk.Goals as goal

pub returns : goal.returns
returns c = new_files_have_no_chunk
