use Rattle.protocol_allowed.proofs.Whole.{what_is_computed_is_allowed}
use Rattle.protocol_allowed.proofs.laws.what_is_computed_is_allowed.Goals as goal

pub returns : goal.returns
returns c = what_is_computed_is_allowed
