use Rattle.relaxed_file.proofs.Successes.{answered_offsets_differ}
use Rattle.relaxed_file.proofs.laws.answered_offsets_differ.Goals as goal

pub returns : goal.returns
returns c = answered_offsets_differ
