use Rattle.relaxed_file.proofs.OneRound.{rounds_come_one_by_one}
use Rattle.relaxed_file.proofs.laws.rounds_come_one_by_one.Goals as goal

pub returns : goal.returns
returns c = rounds_come_one_by_one
