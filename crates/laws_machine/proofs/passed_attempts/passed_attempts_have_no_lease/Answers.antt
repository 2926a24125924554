use Rattle.laws_machine.proofs.PassedAttempts.{passed_attempts_have_no_lease}
use Rattle.laws_machine.proofs.passed_attempts.passed_attempts_have_no_lease.Goals as goal

pub returns : goal.returns
returns c = passed_attempts_have_no_lease
