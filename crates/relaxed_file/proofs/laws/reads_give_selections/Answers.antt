use Rattle.relaxed_file.proofs.GivenReads.{reads_give_selections}
use Rattle.relaxed_file.proofs.laws.reads_give_selections.Goals as goal

pub returns : goal.returns
returns c = reads_give_selections
