use Rattle.laws_versions.proofs.CopiesPlaced.{copies_stand_at_their_sources_index}
use Rattle.laws_versions.proofs.handle_indexes.copies_stand_at_their_sources_index.Goals as goal

pub returns : goal.returns
returns c = copies_stand_at_their_sources_index
