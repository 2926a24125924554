use Rattle.protocol_allowed.proofs.WholeBack.{what_is_allowed_is_computed}
use Rattle.protocol_allowed.proofs.laws.what_is_allowed_is_computed.Goals as goal

pub returns : goal.returns
returns c = what_is_allowed_is_computed
