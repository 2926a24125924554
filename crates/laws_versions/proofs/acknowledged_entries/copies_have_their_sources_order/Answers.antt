use Rattle.laws_versions.proofs.SkippedRounds.{copies_have_their_sources_order}
use Rattle.laws_versions.proofs.acknowledged_entries.copies_have_their_sources_order.Goals as goal

pub returns : goal.returns
returns c = copies_have_their_sources_order
