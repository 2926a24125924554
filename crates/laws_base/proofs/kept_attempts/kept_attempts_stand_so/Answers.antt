use Rattle.laws_base.proofs.KeptAttempts.{kept_attempts_stand_so}
use Rattle.laws_base.proofs.kept_attempts.kept_attempts_stand_so.Goals as goal

pub returns : goal.returns
returns c = kept_attempts_stand_so
