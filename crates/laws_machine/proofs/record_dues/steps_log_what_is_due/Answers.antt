use Rattle.laws_machine.proofs.RecordDues.{steps_log_what_is_due}
use Rattle.laws_machine.proofs.record_dues.steps_log_what_is_due.Goals as goal

pub returns : goal.returns
returns c = steps_log_what_is_due
