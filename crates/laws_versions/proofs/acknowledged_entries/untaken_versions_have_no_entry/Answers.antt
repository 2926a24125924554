use Rattle.laws_versions.proofs.SkippedRounds.{untaken_versions_have_no_entry}
use Rattle.laws_versions.proofs.acknowledged_entries.untaken_versions_have_no_entry.Goals as goal

pub returns : goal.returns
returns c = untaken_versions_have_no_entry
