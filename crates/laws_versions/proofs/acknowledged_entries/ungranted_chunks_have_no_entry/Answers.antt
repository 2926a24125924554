use Rattle.laws_versions.proofs.Ungranted.{ungranted_chunks_have_no_entry}
use Rattle.laws_versions.proofs.acknowledged_entries.ungranted_chunks_have_no_entry.Goals as goal

pub returns : goal.returns
returns c = ungranted_chunks_have_no_entry
