use Rattle.laws_base.proofs.Unleased.{new_copies_have_no_lease}
use Rattle.laws_base.proofs.new_copies.new_copies_have_no_lease.Goals as goal

pub returns : goal.returns
returns c = new_copies_have_no_lease
