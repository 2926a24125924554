use Rattle.laws_versions.proofs.HandleIndexes.{handles_stand_at_one_index}
use Rattle.laws_versions.proofs.handle_indexes.handles_stand_at_one_index.Goals as goal

pub returns : goal.returns
returns c = handles_stand_at_one_index
