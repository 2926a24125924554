use Rattle.relaxed_file.proofs.NamesGo.{snapshots_copy_chunks}
use Rattle.relaxed_file.proofs.laws.snapshots_copy_chunks.Goals as goal

pub returns : goal.returns
returns c = snapshots_copy_chunks
