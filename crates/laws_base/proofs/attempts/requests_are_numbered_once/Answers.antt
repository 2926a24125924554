use Rattle.laws_base.proofs.RequestsOnce.{requests_are_numbered_once}
use Rattle.laws_base.proofs.attempts.requests_are_numbered_once.Goals as goal

pub returns : goal.returns
returns c = requests_are_numbered_once
