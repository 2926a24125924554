use Rattle.laws_versions.proofs.SettledEnds.{records_come_behind_settled_entries}
use Rattle.laws_versions.proofs.acknowledged_entries.records_come_behind_settled_entries.Goals as goal

pub returns : goal.returns
returns c = records_come_behind_settled_entries
