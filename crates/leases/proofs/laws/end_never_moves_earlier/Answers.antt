use Rattle.leases.proofs.Counting.{not_earlier}
use Rattle.leases.proofs.laws.end_never_moves_earlier.Goals as goal

pub returns : goal.returns
returns c = not_earlier
