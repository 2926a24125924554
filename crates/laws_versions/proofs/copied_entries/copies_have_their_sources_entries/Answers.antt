use Rattle.laws_versions.proofs.CopiedEntries.{copies_have_their_sources_entries}
use Rattle.laws_versions.proofs.copied_entries.copies_have_their_sources_entries.Goals as goal

pub returns : goal.returns
returns c = copies_have_their_sources_entries
