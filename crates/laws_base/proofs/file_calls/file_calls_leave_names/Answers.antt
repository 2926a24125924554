use Rattle.laws_base.proofs.FileSteps.{file_calls_begin, file_calls_go_on}
use Rattle.laws_base.proofs.file_calls.file_calls_leave_names.Goals as goal

pub returns-clause-begins : goal.returns-clause-begins
returns-clause-begins c = file_calls_begin

pub returns-clause-goes : goal.returns-clause-goes
returns-clause-goes c = file_calls_go_on
