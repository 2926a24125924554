use Rattle.laws_base.proofs.RequestsOnce.{requests_carry_used_numbers}
use Rattle.laws_base.proofs.attempts.requests_carry_used_numbers.Goals as goal

pub returns : goal.returns
returns c = requests_carry_used_numbers
