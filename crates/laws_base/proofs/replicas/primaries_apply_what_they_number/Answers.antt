use Rattle.laws_base.proofs.Applied.{primaries_apply_what_they_number}
use Rattle.laws_base.proofs.replicas.primaries_apply_what_they_number.Goals as goal

pub returns : goal.returns
returns c = primaries_apply_what_they_number
