use Rattle.laws_base.proofs.KeptAttempts.{numbers_that_wait_are_kept}
use Rattle.laws_base.proofs.kept_attempts.numbers_that_wait_are_kept.Goals as goal

pub returns : goal.returns
returns c = numbers_that_wait_are_kept
