use Rattle.promises.proofs.RecordReads.{reopened_files_show_records}
use Rattle.promises.proofs.readers.reopened_files_show_records.Goals as goal

pub returns : goal.returns
returns c = reopened_files_show_records
