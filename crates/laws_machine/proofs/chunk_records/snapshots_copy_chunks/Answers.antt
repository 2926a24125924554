use Rattle.laws_machine.proofs.Snapshots.{snapshots_copy_chunks}
use Rattle.laws_machine.proofs.chunk_records.snapshots_copy_chunks.Goals as goal

pub returns : goal.returns
returns c = snapshots_copy_chunks
