use Rattle.relaxed_file.proofs.ClosedRounds.{closed_rounds_are_over}
use Rattle.relaxed_file.proofs.laws.closed_rounds_are_over.Goals as goal

pub returns : goal.returns
returns c = closed_rounds_are_over
