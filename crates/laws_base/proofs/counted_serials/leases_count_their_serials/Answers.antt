use Rattle.laws_base.proofs.CountedRounds.{leases_count_their_serials}
use Rattle.laws_base.proofs.counted_serials.leases_count_their_serials.Goals as goal

pub returns : goal.returns
returns c = leases_count_their_serials
