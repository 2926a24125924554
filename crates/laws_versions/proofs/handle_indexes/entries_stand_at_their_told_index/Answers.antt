use Rattle.laws_versions.proofs.EntryIndexes.{entries_stand_at_their_told_index}
use Rattle.laws_versions.proofs.handle_indexes.entries_stand_at_their_told_index.Goals as goal

pub returns : goal.returns
returns c = entries_stand_at_their_told_index
