use Rattle.laws_machine.proofs.Plain.{rows_of_no_file_may_change}
use Rattle.laws_machine.proofs.chunk_records.rows_of_no_file_may_change.Goals as goal

pub returns : goal.returns
returns c = rows_of_no_file_may_change
