use Rattle.laws_base.proofs.Successes.{successes_were_settled}
use Rattle.laws_base.proofs.successes_laws.successes_were_settled.Goals as goal

pub returns : goal.returns
returns c = successes_were_settled
