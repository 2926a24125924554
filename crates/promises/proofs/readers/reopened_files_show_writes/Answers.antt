use Rattle.promises.proofs.PartReads.{reopened_files_show_writes}
use Rattle.promises.proofs.readers.reopened_files_show_writes.Goals as goal

pub returns : goal.returns
returns c = reopened_files_show_writes
