use Rattle.laws_names.proofs.Unasked.{expirations_are_followed}
use Rattle.laws_names.proofs.unasked_steps.expirations_are_followed.Goals as goal

pub returns : goal.returns
returns c = expirations_are_followed
