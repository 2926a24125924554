use Rattle.laws_versions.proofs.CopiedEntries.{copies_go_above_their_source}
use Rattle.laws_versions.proofs.copied_entries.copies_go_above_their_source.Goals as goal

pub returns : goal.returns
returns c = copies_go_above_their_source
