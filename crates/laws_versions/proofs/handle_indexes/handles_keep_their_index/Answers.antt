use Rattle.laws_versions.proofs.HandleIndexes.{handles_keep_their_index}
use Rattle.laws_versions.proofs.handle_indexes.handles_keep_their_index.Goals as goal

pub returns : goal.returns
returns c = handles_keep_their_index
