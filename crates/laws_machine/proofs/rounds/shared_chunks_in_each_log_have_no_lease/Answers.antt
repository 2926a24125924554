use Rattle.laws_machine.proofs.EndedRounds.{shared_chunks_in_each_log_have_no_lease}
use Rattle.laws_machine.proofs.rounds.shared_chunks_in_each_log_have_no_lease.Goals as goal

pub returns : goal.returns
returns c = shared_chunks_in_each_log_have_no_lease
