use Rattle.laws_versions.proofs.SkippedRounds.{orders_skip_no_entry}
use Rattle.laws_versions.proofs.acknowledged_entries.orders_skip_no_entry.Goals as goal

pub returns : goal.returns
returns c = orders_skip_no_entry
