use Rattle.leases.proofs.Counting.{never_again}
use Rattle.leases.proofs.laws.never_counts_again.Goals as goal

pub returns : goal.returns
returns c = never_again
