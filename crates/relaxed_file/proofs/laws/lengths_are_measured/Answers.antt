use Rattle.relaxed_file.proofs.GivenReads.{lengths_are_measured}
use Rattle.relaxed_file.proofs.laws.lengths_are_measured.Goals as goal

pub returns : goal.returns
returns c = lengths_are_measured
