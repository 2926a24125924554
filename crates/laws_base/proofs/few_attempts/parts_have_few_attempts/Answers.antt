use Rattle.laws_base.proofs.FewAttempts.{parts_have_few_attempts}
use Rattle.laws_base.proofs.few_attempts.parts_have_few_attempts.Goals as goal

pub returns : goal.returns
returns c = parts_have_few_attempts
