use Rattle.laws_machine.proofs.GrantedRecords.{steps_grant_what_was_attempted}
use Rattle.laws_machine.proofs.record_dues.steps_grant_what_was_attempted.Goals as goal

pub returns : goal.returns
returns c = steps_grant_what_was_attempted
