use Rattle.laws_machine.proofs.GrantedSources.{sources_of_granted_copies_have_no_lease}
use Rattle.laws_machine.proofs.rounds.sources_of_granted_copies_have_no_lease.Goals as goal

pub returns : goal.returns
returns c = sources_of_granted_copies_have_no_lease
