use Rattle.relaxed_file.proofs.TwoRounds.{two_rounds_run}
use Rattle.relaxed_file.proofs.traces.two_rounds.Goals as goal

pub returns : goal.returns
returns c = two_rounds_run
