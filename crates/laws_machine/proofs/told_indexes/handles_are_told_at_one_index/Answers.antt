use Rattle.laws_machine.proofs.ToldOnce.{handles_are_told_at_one_index}
use Rattle.laws_machine.proofs.told_indexes.handles_are_told_at_one_index.Goals as goal

pub returns : goal.returns
returns c = handles_are_told_at_one_index
